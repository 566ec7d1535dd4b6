-- What a front that is a whole frame says: the frame is sound, and its bytes stand first.
use Rattle.std.proofs.Common.{◌≡◌, ℕ, ◌+◌, ◌-◌, ◌≤◌, Bool, true, false, List, ◌++◌, length, take, drop, slice_range, bytes_eq, nat_le, refl, sym, ap, subst, ◌∙◌, arith, append_assoc}
use Rattle.std.specs.Int.{w32, to_le_bytes}
use Rattle.std.proofs.lemmas.Bool.{leb-true}
use Rattle.std.proofs.lemmas.List.{length-take-le, length-drop, take-append-drop, drop-drop}
use Rattle.std.proofs.lemmas.Nat.{le_bytes_4}
use Rattle.std.proofs.lemmas.Slice.Eq.{bytes_eq-Decides}
use Rattle.id_rules.specs.Bytes.{are_bytes}
use Rattle.wire_rules.specs.Commands.{is_command}
use Rattle.wire_rules.specs.Layout.{checksum}
use Rattle.wire_rules.specs.Stream.{Header, WholeFrame, header_of, header_fault, front_by_checksum, front_by_payload, front_by_header, front_by_length, front_of}
use Rattle.wire_rules.specs.declared.frame.Frame.{Frame}
use Rattle.wire_rules.specs.declared.limits.TheConstants.{PAYLOAD_LIMIT}
use Rattle.wire_laws.proofs.Taken.{small_byte}
use Rattle.id_rules.proofs.Bytes.{bytes_split}
use Rattle.stream_laws.specs.FrameReading.{IsFirstFrame}

-- the tests that a whole front has passed
pub record Judged (magic : List ℕ) (h : Header) (behind : List ℕ) (f : Frame) (n : ℕ) : Type 0 where
  pub magic_stands : magic ≡ h.magic
  pub command : is_command h.command ≡ true
  pub within : h.size ≤ PAYLOAD_LIMIT
  pub enough : h.size ≤ length behind
  pub sum : h.sum ≡ checksum (take h.size behind)
  pub frame : record { command = h.command; payload = take h.size behind } ≡ f
  pub size : 24 + h.size ≡ n

whole_frame : (f g : Frame) (m n : ℕ) → WholeFrame f m ≡ WholeFrame g n → (f ≡ g) × (m ≡ n)
whole_frame f g m n e = (cc, cc)

sum_judged : (same : Bool) (offset : ℕ) (h : Header) (payload : List ℕ) (f : Frame) (n : ℕ) → bytes_eq h.sum (checksum payload) ≡ same → front_by_checksum same offset h payload ≡ WholeFrame f n
    → (h.sum ≡ checksum payload) × ((record { command = h.command; payload = payload } ≡ f) × (24 + h.size ≡ n))
unfolding front_by_checksum
sum_judged false offset h payload f n same e = absurd (cc)
sum_judged true offset h payload f n same e = ((bytes_eq-Decides h.sum (checksum payload)).0 same, whole_frame (record { command = h.command; payload = payload }) f (24 + h.size) n e)

payload_judged : (there : Bool) (offset : ℕ) (magic : List ℕ) (h : Header) (behind : List ℕ) (f : Frame) (n : ℕ) → magic ≡ h.magic → is_command h.command ≡ true → h.size ≤ PAYLOAD_LIMIT
    → nat_le h.size (length behind) ≡ there → front_by_payload there offset h behind ≡ WholeFrame f n → Judged magic h behind f n
unfolding front_by_payload
payload_judged false offset magic h behind f n m c w there e = absurd (cc)
payload_judged true offset magic h behind f n m c w there e =
    let s = sum_judged (bytes_eq h.sum (checksum (take h.size behind))) offset h (take h.size behind) f n refl e in
    record { magic_stands = m; command = c; within = w; enough = leb-true h.size (length behind) there; sum = s.0; frame = s.1.0; size = s.1.1 }

header_judged : (m s w : Bool) (offset : ℕ) (magic : List ℕ) (h : Header) (behind : List ℕ) (f : Frame) (n : ℕ) → bytes_eq magic h.magic ≡ m → is_command h.command ≡ s → nat_le h.size PAYLOAD_LIMIT ≡ w
    → front_by_header (header_fault offset h.size m s w) offset h behind ≡ WholeFrame f n → Judged magic h behind f n
unfolding front_by_header header_fault
header_judged false s w offset magic h behind f n em es ew e = absurd (cc)
header_judged true false w offset magic h behind f n em es ew e = absurd (cc)
header_judged true true false offset magic h behind f n em es ew e = absurd (cc)
header_judged true true true offset magic h behind f n em es ew e =
    payload_judged (nat_le h.size (length behind)) offset magic h behind f n ((bytes_eq-Decides magic h.magic).0 em) es (leb-true h.size PAYLOAD_LIMIT ew) refl e

-- the tests that a whole front has passed are those of the header in front
pub length_judged : (long : Bool) (magic : List ℕ) (offset : ℕ) (bytes : List ℕ) (f : Frame) (n : ℕ) → nat_le 24 (length bytes) ≡ long → front_by_length long magic offset bytes ≡ WholeFrame f n
    → (24 ≤ length bytes) × Judged magic (header_of bytes) (drop 24 bytes) f n
unfolding front_by_length
length_judged false magic offset bytes f n long e = absurd (cc)
length_judged true magic offset bytes f n long e =
    let h = header_of bytes in
    (leb-true 24 (length bytes) long, header_judged (bytes_eq magic h.magic) (is_command h.command) (nat_le h.size PAYLOAD_LIMIT) offset magic h (drop 24 bytes) f n refl refl refl e)

-- bytes as their parts
cut_more : (a b : ℕ) (bytes : List ℕ) → a ≤ b → drop a bytes ≡ slice_range bytes a b ++ drop b bytes
cut_more a b bytes h =
    sym (take-append-drop (b - a) (drop a bytes))
    ∙ ap (λ xs. slice_range bytes a b ++ xs) (drop-drop (b - a) a bytes ∙ ap (λ k. drop k bytes) (omega (arith, h)))

in_parts : (bytes : List ℕ) → bytes ≡ take 4 bytes ++ slice_range bytes 4 16 ++ slice_range bytes 16 20 ++ slice_range bytes 20 24 ++ drop 24 bytes
in_parts bytes =
    let a = take 4 bytes in let b = slice_range bytes 4 16 in let c = slice_range bytes 16 20 in let d = slice_range bytes 20 24 in
    sym (take-append-drop 4 bytes)
    ∙ (ap (λ xs. a ++ xs) (cut_more 4 16 bytes (omega arith))
    ∙ (sym (append_assoc a b (drop 16 bytes))
    ∙ (ap (λ xs. a ++ b ++ xs) (cut_more 16 20 bytes (omega arith))
    ∙ (sym (append_assoc (a ++ b) c (drop 20 bytes))
    ∙ (ap (λ xs. a ++ b ++ c ++ xs) (cut_more 20 24 bytes (omega arith))
    ∙ sym (append_assoc (a ++ b ++ c) d (drop 24 bytes)))))))

pub bytes_cut : (n : ℕ) (bytes : List ℕ) → are_bytes bytes ≡ true → (are_bytes (take n bytes) ≡ true) × (are_bytes (drop n bytes) ≡ true)
bytes_cut n bytes h = bytes_split (take n bytes) (drop n bytes) (subst (λ xs. are_bytes xs ≡ true) (sym (take-append-drop n bytes)) h)

found_by : (magic bytes : List ℕ) (f : Frame) (n : ℕ) → are_bytes bytes ≡ true → 24 ≤ length bytes → Judged magic (header_of bytes) (drop 24 bytes) f n
    → IsFirstFrame magic bytes (record { command = slice_range bytes 4 16; payload = take (header_of bytes).size (drop 24 bytes) }) (24 + (header_of bytes).size)
found_by magic bytes f n sound long j = record {
  sound = record { command = j.command; within = subst (λ k. k ≤ PAYLOAD_LIMIT) (sym size) j.within; bytes = (bytes_cut s (drop 24 bytes) (bytes_cut 24 bytes sound).1).0 };
  size = ap (λ k. 24 + k) (sym size);
  whole = in_parts bytes ∙ (parts ∙ (ap (λ xs. head ++ xs) tail ∙ sym (append_assoc head payload (drop (24 + s) bytes))));
}
  where
    s : ℕ
    s = (header_of bytes).size

    payload : List ℕ
    payload = take s (drop 24 bytes)

    size : length payload ≡ s
    size = length-take-le s (drop 24 bytes) j.enough

    told : List ℕ
    told = slice_range bytes 16 20

    told_bytes : are_bytes told ≡ true
    told_bytes = (bytes_cut 4 (drop 16 bytes) (bytes_cut 16 bytes sound).1).0

    told_length : length told ≡ 4
    told_length = length-take-le 4 (drop 16 bytes) (let d = length-drop 16 bytes in omega (arith, long, d))

    back : told ≡ to_le_bytes w32 (length payload)
    back = sym (le_bytes_4 told (length payload) told_length (λ i. small_byte told i told_bytes) size)

    head : List ℕ
    head = magic ++ slice_range bytes 4 16 ++ to_le_bytes w32 (length payload) ++ checksum payload

    parts : take 4 bytes ++ slice_range bytes 4 16 ++ told ++ slice_range bytes 20 24 ++ drop 24 bytes ≡ head ++ drop 24 bytes
    parts =
        ap (λ xs. xs ++ slice_range bytes 4 16 ++ told ++ slice_range bytes 20 24 ++ drop 24 bytes) (sym j.magic_stands)
        ∙ (ap (λ xs. magic ++ slice_range bytes 4 16 ++ xs ++ slice_range bytes 20 24 ++ drop 24 bytes) back
        ∙ ap (λ xs. magic ++ slice_range bytes 4 16 ++ to_le_bytes w32 (length payload) ++ xs ++ drop 24 bytes) j.sum)

    tail : drop 24 bytes ≡ payload ++ drop (24 + s) bytes
    tail = sym (take-append-drop s (drop 24 bytes)) ∙ ap (λ xs. payload ++ xs) (drop-drop s 24 bytes)

-- a whole front is a sound frame, and the bytes begin with it
pub front-found : (magic : List ℕ) (offset : ℕ) (bytes : List ℕ) (f : Frame) (n : ℕ) → are_bytes bytes ≡ true → front_of magic offset bytes ≡ WholeFrame f n → IsFirstFrame magic bytes f n
front-found magic offset bytes f n sound e =
    let j = length_judged (nat_le 24 (length bytes)) magic offset bytes f n refl e in
    subst (λ g. IsFirstFrame magic bytes g n) j.1.frame (subst (λ k. IsFirstFrame magic bytes (record { command = slice_range bytes 4 16; payload = take (header_of bytes).size (drop 24 bytes) }) k) j.1.size (found_by magic bytes f n sound j.0 j.1))

-- it has at least the bytes of a header, and no more than there are
pub whole-size : (magic : List ℕ) (offset : ℕ) (bytes : List ℕ) (f : Frame) (n : ℕ) → front_of magic offset bytes ≡ WholeFrame f n → (24 ≤ n) × (n ≤ length bytes)
whole-size magic offset bytes f n e =
    let j = length_judged (nat_le 24 (length bytes)) magic offset bytes f n refl e in
    let long = j.0 in let enough = j.1.enough in let size = j.1.size in let left = length-drop 24 bytes in
    (omega arith, omega arith)
