-- What unread bytes begin with, once it is settled, stays whatever follows; and that nothing is settled yet depends on no
-- offset.
use Rattle.std.proofs.Common.{◌≡◌, ℕ, ◌-◌, ◌≤◌, Bool, true, false, List, ◌++◌, Option, Some, None, length, take, drop, slice_range, bytes_eq, nat_le, refl, sym, ap, ◌∙◌, arith}
use Rattle.std.specs.Int.{w32, from_le_bytes}
use Rattle.std.proofs.lemmas.Bool.{leb-true, le-leb}
use Rattle.std.proofs.lemmas.List.{length-append, length-drop, take-append-le, drop-append-le}
use Rattle.wire_rules.specs.Commands.{is_command}
use Rattle.wire_rules.specs.Layout.{checksum}
use Rattle.wire_rules.specs.Stream.{Front, Header, FaultyFrame, PartialFrame, WholeFrame, header_of, header_fault, fault_of_header, front_by_checksum, front_of_payload, front_by_payload, front_by_header, front_by_length, front_of}
use Rattle.wire_rules.specs.declared.frame.Frame.{Frame}
use Rattle.wire_rules.specs.declared.frame.FrameFault.{FrameFault}
use Rattle.wire_rules.specs.declared.limits.TheConstants.{HEADER_LEN, PAYLOAD_LIMIT}

-- ---- a front that isn't partial stays, whatever follows

payload_stays : (there : Bool) (offset : ℕ) (h : Header) (behind more : List ℕ) → nat_le h.size (length behind) ≡ there → (front_by_payload there offset h behind ≡ PartialFrame → ⊥)
    → front_by_payload (nat_le h.size (length (behind ++ more))) offset h (behind ++ more) ≡ front_by_payload there offset h behind
unfolding front_by_payload
payload_stays false offset h behind more e whole = absurd (whole refl)
payload_stays true offset h behind more e whole =
    let low = leb-true h.size (length behind) e in
    let sum = length-append behind more in
    ap (λ b. front_by_payload b offset h (behind ++ more)) (le-leb h.size (length (behind ++ more)) (omega (arith, low, sum)))
    ∙ ap (front_of_payload offset h) (take-append-le h.size behind more low)

header_stays : (o : Option FrameFault) (offset : ℕ) (h : Header) (behind more : List ℕ) → (front_by_header o offset h behind ≡ PartialFrame → ⊥)
    → front_by_header o offset h (behind ++ more) ≡ front_by_header o offset h behind
unfolding front_by_header
header_stays (Some f) offset h behind more whole = refl
header_stays None offset h behind more whole = payload_stays (nat_le h.size (length behind)) offset h behind more refl whole

part_stays : (a b : ℕ) (bytes more : List ℕ) → a ≤ b → b ≤ length bytes → slice_range (bytes ++ more) a b ≡ slice_range bytes a b
part_stays a b bytes more ab bl =
    ap (take (b - a)) (drop-append-le a bytes more (omega (arith, ab, bl)))
    ∙ take-append-le (b - a) (drop a bytes) more (let s = length-drop a bytes in omega (arith, ab, bl, s))

same_header : (bytes more : List ℕ) → 24 ≤ length bytes → header_of (bytes ++ more) ≡ header_of bytes
same_header bytes more h = λ i. record {
  magic = take-append-le 4 bytes more (omega (arith, h)) i;
  command = part_stays 4 16 bytes more (omega arith) (omega (arith, h)) i;
  size = from_le_bytes w32 (part_stays 16 20 bytes more (omega arith) (omega (arith, h)) i);
  sum = part_stays 20 24 bytes more (omega arith) (omega (arith, h)) i;
}

length_stays : (long : Bool) (magic : List ℕ) (offset : ℕ) (bytes more : List ℕ) → nat_le 24 (length bytes) ≡ long → (front_by_length long magic offset bytes ≡ PartialFrame → ⊥)
    → front_of magic offset (bytes ++ more) ≡ front_by_length long magic offset bytes
unfolding front_by_length
length_stays false magic offset bytes more e whole = absurd (whole refl)
length_stays true magic offset bytes more e whole =
    let low = leb-true 24 (length bytes) e in
    let sum = length-append bytes more in
    ap (λ b. front_by_length b magic offset (bytes ++ more)) (le-leb 24 (length (bytes ++ more)) (omega (arith, low, sum)))
    ∙ (ap (λ h. front_by_header (fault_of_header magic offset h) offset h (drop 24 (bytes ++ more))) (same_header bytes more low)
    ∙ (ap (front_by_header (fault_of_header magic offset (header_of bytes)) offset (header_of bytes)) (drop-append-le 24 bytes more low)
    ∙ header_stays (fault_of_header magic offset (header_of bytes)) offset (header_of bytes) (drop 24 bytes) more whole))

pub front-stays : (magic : List ℕ) (offset : ℕ) (bytes more : List ℕ) → (front_of magic offset bytes ≡ PartialFrame → ⊥) → front_of magic offset (bytes ++ more) ≡ front_of magic offset bytes
front-stays magic offset bytes more whole = length_stays (nat_le 24 (length bytes)) magic offset bytes more refl whole

unfinished : (x : Front) → x ≡ PartialFrame → (f : Frame) (n : ℕ) → x ≡ WholeFrame f n → ⊥
unfinished x partial f n whole = let same = sym partial ∙ whole in absurd (cc)

unfaulty : (x : Front) → x ≡ PartialFrame → (fault : FrameFault) → x ≡ FaultyFrame fault → ⊥
unfaulty x partial fault faulty = let same = sym partial ∙ faulty in absurd (cc)

pub whole-stays : (magic : List ℕ) (offset : ℕ) (bytes more : List ℕ) (f : Frame) (n : ℕ) → front_of magic offset bytes ≡ WholeFrame f n → front_of magic offset (bytes ++ more) ≡ WholeFrame f n
whole-stays magic offset bytes more f n e = front-stays magic offset bytes more (λ partial. unfinished (front_of magic offset bytes) partial f n e) ∙ e

pub fault-stays : (magic : List ℕ) (offset : ℕ) (bytes more : List ℕ) (fault : FrameFault) → front_of magic offset bytes ≡ FaultyFrame fault → front_of magic offset (bytes ++ more) ≡ FaultyFrame fault
fault-stays magic offset bytes more fault e = front-stays magic offset bytes more (λ partial. unfaulty (front_of magic offset bytes) partial fault e) ∙ e

-- ---- a partial front is one at every offset

sum_apart : (same : Bool) (at : ℕ) (h : Header) (payload : List ℕ) → front_by_checksum same at h payload ≡ PartialFrame → ⊥
unfolding front_by_checksum
sum_apart true at h payload e = absurd (cc)
sum_apart false at h payload e = absurd (cc)

payload_partial : (there same : Bool) (at offset : ℕ) (h : Header) (behind : List ℕ) → front_by_payload there at h behind ≡ PartialFrame → front_by_payload there offset h behind ≡ PartialFrame
unfolding front_by_payload
payload_partial true same at offset h behind e = absurd (sum_apart (bytes_eq h.sum (checksum (take h.size behind))) at h (take h.size behind) e)
payload_partial false same at offset h behind e = refl

header_partial : (magic sound within : Bool) (at offset : ℕ) (h : Header) (behind : List ℕ) → front_by_header (header_fault at h.size magic sound within) at h behind ≡ PartialFrame → front_by_header (header_fault offset h.size magic sound within) offset h behind ≡ PartialFrame
unfolding front_by_header header_fault
header_partial true true true at offset h behind e = payload_partial (nat_le h.size (length behind)) true at offset h behind e
header_partial true true false at offset h behind e = absurd (cc)
header_partial true false within at offset h behind e = absurd (cc)
header_partial false sound within at offset h behind e = absurd (cc)

length_partial : (long : Bool) (magic : List ℕ) (at offset : ℕ) (bytes : List ℕ) → front_by_length long magic at bytes ≡ PartialFrame → front_by_length long magic offset bytes ≡ PartialFrame
unfolding front_by_length
length_partial true magic at offset bytes e =
    let h = header_of bytes in
    header_partial (bytes_eq magic h.magic) (is_command h.command) (nat_le h.size PAYLOAD_LIMIT) at offset h (drop HEADER_LEN bytes) e
length_partial false magic at offset bytes e = refl

pub partial-anywhere : (magic : List ℕ) (at offset : ℕ) (bytes : List ℕ) → front_of magic at bytes ≡ PartialFrame → front_of magic offset bytes ≡ PartialFrame
partial-anywhere magic at offset bytes e = length_partial (nat_le HEADER_LEN (length bytes)) magic at offset bytes e
