-- The front of a stream that begins with a frame, whole or cut off.
use Rattle.std.proofs.Common.{◌≡◌, ℕ, ◌+◌, ◌-◌, ◌<◌, ◌≤◌, Bool, true, false, List, [], ◌++◌, None, length, take, drop, slice_range, nat_le, ◌&&◌, ◌==◌, refl, sym, ap, subst, ◌∙◌, arith, append_assoc, le_of_lt}
use Rattle.std.specs.Int.{w32, to_le_bytes, from_le_bytes}
use Rattle.std.proofs.Math.Seq.{take-append-add}
use Rattle.std.proofs.lemmas.Bool.{eqb-true, lt-leb, leb-true, leb-false, and_parts, le-leb}
use Rattle.std.proofs.lemmas.List.{length-append, length-take-le}
use Rattle.std.proofs.lemmas.Nat.{from_le_bytes-to_le_bytes_4}
use Rattle.sha2.specs.Sha256.{sha256, digest_bytes}
use Rattle.wire_rules.specs.Commands.{is_command, has_printable_start, is_filled}
use Rattle.wire_rules.specs.Layout.{checksum, frame_bytes}
use Rattle.wire_rules.specs.Limits.{IsFrame}
use Rattle.wire_rules.specs.Stream.{Header, PartialFrame, WholeFrame, header_of, header_fault, fault_of_header, front_by_checksum, front_of_payload, front_by_payload, front_by_header, front_by_length, front_of}
use Rattle.wire_rules.specs.declared.frame.Frame.{Frame}
use Rattle.wire_rules.specs.declared.limits.TheConstants.{PAYLOAD_LIMIT}
use Rattle.wire_laws.proofs.Parts.{take_front, drop_front, bytes_eq-self}

-- a checksum has 4 bytes
pub checksum-length : (payload : List ℕ) → length (checksum payload) ≡ 4
unfolding sha256 digest_bytes
checksum-length payload = refl

size_length : (n : ℕ) → length (to_le_bytes w32 n) ≡ 4
size_length n = refl

-- a sound command has 12 bytes
pub command-length : (c : List ℕ) → is_command c ≡ true → length c ≡ 12
command-length c h = eqb-true (length c) 12 (and_parts (length c == 12) (has_printable_start c) (and_parts ((length c == 12) && has_printable_start c) (is_filled c) h).0).0

-- four parts of 4, 12, 4 and 4 bytes, and what stands behind them
module _ (a b c d rest : List ℕ) (la : length a ≡ 4) (lb : length b ≡ 12) (lc : length c ≡ 4) (ld : length d ≡ 4) where
  to_16 : length (a ++ b) ≡ 16
  to_16 = length-append a b ∙ (ap (λ n. n + length b) la ∙ ap (λ n. 4 + n) lb)

  to_20 : length (a ++ b ++ c) ≡ 20
  to_20 = length-append (a ++ b) c ∙ (ap (λ n. n + length c) to_16 ∙ ap (λ n. 16 + n) lc)

  pub to_24 : length (a ++ b ++ c ++ d) ≡ 24
  to_24 = length-append (a ++ b ++ c) d ∙ (ap (λ n. n + length d) to_20 ∙ ap (λ n. 20 + n) ld)

  behind_20 : a ++ b ++ c ++ d ++ rest ≡ a ++ b ++ c ++ (d ++ rest)
  behind_20 = append_assoc (a ++ b ++ c) d rest

  behind_16 : a ++ b ++ c ++ d ++ rest ≡ a ++ b ++ (c ++ (d ++ rest))
  behind_16 = behind_20 ∙ append_assoc (a ++ b) c (d ++ rest)

  behind_4 : a ++ b ++ c ++ d ++ rest ≡ a ++ (b ++ (c ++ (d ++ rest)))
  behind_4 = behind_16 ∙ append_assoc a b (c ++ (d ++ rest))

  first_4 : take 4 (a ++ b ++ c ++ d ++ rest) ≡ a
  first_4 = ap (take 4) behind_4 ∙ take_front 4 a (b ++ (c ++ (d ++ rest))) la

  next_12 : slice_range (a ++ b ++ c ++ d ++ rest) 4 16 ≡ b
  next_12 = ap (λ xs. take 12 (drop 4 xs)) behind_4 ∙ (ap (take 12) (drop_front 4 a (b ++ (c ++ (d ++ rest))) la) ∙ take_front 12 b (c ++ (d ++ rest)) lb)

  next_4 : slice_range (a ++ b ++ c ++ d ++ rest) 16 20 ≡ c
  next_4 = ap (λ xs. take 4 (drop 16 xs)) behind_16 ∙ (ap (take 4) (drop_front 16 (a ++ b) (c ++ (d ++ rest)) to_16) ∙ take_front 4 c (d ++ rest) lc)

  last_4 : slice_range (a ++ b ++ c ++ d ++ rest) 20 24 ≡ d
  last_4 = ap (λ xs. take 4 (drop 20 xs)) behind_20 ∙ (ap (take 4) (drop_front 20 (a ++ b ++ c) (d ++ rest) to_20) ∙ take_front 4 d rest ld)

  pub header_of_parts : header_of (a ++ b ++ c ++ d ++ rest) ≡ record { magic = a; command = b; size = from_le_bytes w32 c; sum = d }
  header_of_parts = λ i. record { magic = first_4 i; command = next_12 i; size = from_le_bytes w32 (next_4 i); sum = last_4 i }

  pub rest_of_parts : drop 24 (a ++ b ++ c ++ d ++ rest) ≡ rest
  rest_of_parts = drop_front 24 (a ++ b ++ c ++ d) rest to_24

  pub length_of_parts : length (a ++ b ++ c ++ d ++ rest) ≡ 24 + length rest
  length_of_parts = length-append (a ++ b ++ c ++ d) rest ∙ ap (λ n. n + length rest) to_24

-- the header of a frame
abbrev pub header_with : List ℕ → Frame → Header
header_with magic f = record { magic = magic; command = f.command; size = length f.payload; sum = checksum f.payload }

-- the bytes of a frame before its payload
abbrev pub head_bytes : List ℕ → Frame → List ℕ
head_bytes magic f = magic ++ f.command ++ to_le_bytes w32 (length f.payload) ++ checksum f.payload

-- the size that a header tells
told_size : (n : ℕ) → n ≤ PAYLOAD_LIMIT → from_le_bytes w32 (to_le_bytes w32 n) ≡ n
told_size n h = from_le_bytes-to_le_bytes_4 n (omega arith)

-- bytes that begin with the head of a frame: what is left to judge is the payload
module _ (magic : List ℕ) (four : length magic ≡ 4) (offset : ℕ) (f : Frame) (sound : IsFrame f) (rest : List ℕ) where
  header : header_of (head_bytes magic f ++ rest) ≡ header_with magic f
  header =
      header_of_parts magic f.command (to_le_bytes w32 (length f.payload)) (checksum f.payload) rest four (command-length f.command sound.command) (size_length (length f.payload)) (checksum-length f.payload)
      ∙ ap (λ n. record { magic = magic; command = f.command; size = n; sum = checksum f.payload }) (told_size (length f.payload) sound.within)

  behind : drop 24 (head_bytes magic f ++ rest) ≡ rest
  behind = rest_of_parts magic f.command (to_le_bytes w32 (length f.payload)) (checksum f.payload) rest four (command-length f.command sound.command) (size_length (length f.payload)) (checksum-length f.payload)

  long : nat_le 24 (length (head_bytes magic f ++ rest)) ≡ true
  long = le-leb 24 (length (head_bytes magic f ++ rest)) (subst (λ n. 24 ≤ n) (sym (length_of_parts magic f.command (to_le_bytes w32 (length f.payload)) (checksum f.payload) rest four (command-length f.command sound.command) (size_length (length f.payload)) (checksum-length f.payload))) (omega arith))

  no_fault : fault_of_header magic offset (header_with magic f) ≡ None
  unfolding header_fault
  no_fault =
      ap (λ b. header_fault offset (length f.payload) b (is_command f.command) (nat_le (length f.payload) PAYLOAD_LIMIT)) (bytes_eq-self magic)
      ∙ (ap (λ b. header_fault offset (length f.payload) true b (nat_le (length f.payload) PAYLOAD_LIMIT)) sound.command
      ∙ ap (λ b. header_fault offset (length f.payload) true true b) (le-leb (length f.payload) PAYLOAD_LIMIT sound.within))

  pub front_of_head : front_of magic offset (head_bytes magic f ++ rest) ≡ front_by_payload (nat_le (length f.payload) (length rest)) offset (header_with magic f) rest
  unfolding front_by_length front_by_header
  front_of_head =
      ap (λ b. front_by_length b magic offset (head_bytes magic f ++ rest)) long
      ∙ (ap (λ h. front_by_header (fault_of_header magic offset h) offset h (drop 24 (head_bytes magic f ++ rest))) header
      ∙ (ap (λ o. front_by_header o offset (header_with magic f) (drop 24 (head_bytes magic f ++ rest))) no_fault
      ∙ ap (λ r. front_by_payload (nat_le (length f.payload) (length r)) offset (header_with magic f) r) behind))

-- a frame in front of a stream is found whole
pub front_of-frame : (magic : List ℕ) (offset : ℕ) (f : Frame) (more : List ℕ) → length magic ≡ 4 → IsFrame f
    → front_of magic offset (frame_bytes magic f ++ more) ≡ WholeFrame f (24 + length f.payload)
unfolding front_by_payload front_by_checksum
front_of-frame magic offset f more four sound =
    ap (front_of magic offset) (append_assoc (head_bytes magic f) f.payload more)
    ∙ (front_of_head magic four offset f sound (f.payload ++ more)
    ∙ (ap (λ b. front_by_payload b offset (header_with magic f) (f.payload ++ more)) enough
    ∙ (ap (front_of_payload offset (header_with magic f)) (take_front (length f.payload) f.payload more refl)
    ∙ ap (λ b. front_by_checksum b offset (header_with magic f) f.payload) (bytes_eq-self (checksum f.payload)))))
  where
    enough : nat_le (length f.payload) (length (f.payload ++ more)) ≡ true
    enough = le-leb (length f.payload) (length (f.payload ++ more)) (subst (λ n. length f.payload ≤ n) (sym (length-append f.payload more)) (omega arith))

-- fewer bytes than a header has are partial
pub short_front : (magic : List ℕ) (offset : ℕ) (bytes : List ℕ) → length bytes < 24 → front_of magic offset bytes ≡ PartialFrame
unfolding front_by_length
short_front magic offset bytes h = ap (λ b. front_by_length b magic offset bytes) (lt-leb 24 (length bytes) h)

-- a head and part of the payload are partial
cut_front : (magic : List ℕ) (offset : ℕ) (f : Frame) (rest : List ℕ) → length magic ≡ 4 → IsFrame f → length rest < length f.payload
    → front_of magic offset (head_bytes magic f ++ rest) ≡ PartialFrame
unfolding front_by_payload
cut_front magic offset f rest four sound h =
    front_of_head magic four offset f sound rest
    ∙ ap (λ b. front_by_payload b offset (header_with magic f) rest) (lt-leb (length f.payload) (length rest) h)

-- the head of a frame has 24 bytes
head-length : (magic : List ℕ) (f : Frame) → length magic ≡ 4 → IsFrame f → length (head_bytes magic f) ≡ 24
head-length magic f four sound =
    to_24 magic f.command (to_le_bytes w32 (length f.payload)) (checksum f.payload) [] four (command-length f.command sound.command) (size_length (length f.payload)) (checksum-length f.payload)

-- a proper front of a frame is partial: by whether it has fewer bytes than a head
front_cut : (short : Bool) (magic : List ℕ) (offset : ℕ) (f : Frame) (n : ℕ) → nat_le 24 n ≡ short → length magic ≡ 4 → IsFrame f → n < length (frame_bytes magic f)
    → front_of magic offset (take n (frame_bytes magic f)) ≡ PartialFrame
front_cut false magic offset f n few four sound h =
    short_front magic offset (take n (frame_bytes magic f))
    (let bound = leb-false 24 n few in let size = length-take-le n (frame_bytes magic f) (le_of_lt h) in omega arith)
front_cut true magic offset f n enough four sound h =
    ap (front_of magic offset) split ∙ cut_front magic offset f (take (n - 24) f.payload) four sound fewer
  where
    head : length (head_bytes magic f) ≡ 24
    head = head-length magic f four sound

    low : 24 ≤ n
    low = leb-true 24 n enough

    split : take n (frame_bytes magic f) ≡ head_bytes magic f ++ take (n - 24) f.payload
    split = ap (λ k. take k (frame_bytes magic f)) (omega (arith, head, low)) ∙ take-append-add (head_bytes magic f) f.payload (n - 24)

    whole : length (frame_bytes magic f) ≡ 24 + length f.payload
    whole = length-append (head_bytes magic f) f.payload ∙ ap (λ k. k + length f.payload) head

    part : n - 24 ≤ length f.payload
    part = omega (arith, whole, h, low)

    fewer : length (take (n - 24) f.payload) < length f.payload
    fewer = let size = length-take-le (n - 24) f.payload part in omega (arith, whole, h, low, size)

pub front_of-cut : (magic : List ℕ) (offset : ℕ) (f : Frame) (n : ℕ) → length magic ≡ 4 → IsFrame f → n < length (frame_bytes magic f)
    → front_of magic offset (take n (frame_bytes magic f)) ≡ PartialFrame
front_of-cut magic offset f n four sound h = front_cut (nat_le 24 n) magic offset f n refl four sound h

-- how many bytes a frame has
pub frame-length : (magic : List ℕ) (f : Frame) → length magic ≡ 4 → IsFrame f → length (frame_bytes magic f) ≡ 24 + length f.payload
frame-length magic f four sound = length-append (head_bytes magic f) f.payload ∙ ap (λ k. k + length f.payload) (head-length magic f four sound)
