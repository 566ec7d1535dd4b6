-- How long what is unfinished may be.
use Rattle.std.proofs.Common.{◌≡◌, ℕ, ◌+◌, ◌<◌, Bool, true, false, List, length, take, drop, bytes_eq, nat_le, refl, arith}
use Rattle.std.proofs.lemmas.Bool.{leb-true, leb-false}
use Rattle.std.proofs.lemmas.List.{length-drop}
use Rattle.wire_rules.specs.Commands.{is_command}
use Rattle.wire_rules.specs.Stream.{Header, PartialFrame, header_of, header_fault, front_by_checksum, front_by_payload, front_by_header, front_by_length, front_of}
use Rattle.wire_rules.specs.Layout.{checksum}
use Rattle.wire_rules.specs.declared.limits.TheConstants.{PAYLOAD_LIMIT}

sum_few : (same : Bool) (offset : ℕ) (h : Header) (payload : List ℕ) → front_by_checksum same offset h payload ≡ PartialFrame → ⊥
unfolding front_by_checksum
sum_few true offset h payload e = absurd (cc)
sum_few false offset h payload e = absurd (cc)

payload_few : (there : Bool) (offset : ℕ) (h : Header) (behind : List ℕ) → nat_le h.size (length behind) ≡ there → front_by_payload there offset h behind ≡ PartialFrame → length behind < h.size
unfolding front_by_payload
payload_few false offset h behind there e = leb-false h.size (length behind) there
payload_few true offset h behind there e = absurd (sum_few (bytes_eq h.sum (checksum (take h.size behind))) offset h (take h.size behind) e)

header_few : (m s w : Bool) (offset : ℕ) (h : Header) (behind : List ℕ) → nat_le h.size PAYLOAD_LIMIT ≡ w → front_by_header (header_fault offset h.size m s w) offset h behind ≡ PartialFrame → length behind < PAYLOAD_LIMIT
unfolding front_by_header header_fault
header_few false s w offset h behind ew e = absurd (cc)
header_few true false w offset h behind ew e = absurd (cc)
header_few true true false offset h behind ew e = absurd (cc)
header_few true true true offset h behind ew e =
    let few = payload_few (nat_le h.size (length behind)) offset h behind refl e in
    let within = leb-true h.size PAYLOAD_LIMIT ew in
    omega (arith, few, within)

length_few : (long : Bool) (magic : List ℕ) (offset : ℕ) (bytes : List ℕ) → nat_le 24 (length bytes) ≡ long → front_by_length long magic offset bytes ≡ PartialFrame → length bytes < 24 + PAYLOAD_LIMIT
unfolding front_by_length
length_few false magic offset bytes long e = let few = leb-false 24 (length bytes) long in omega (arith, few)
length_few true magic offset bytes long e =
    let h = header_of bytes in
    let few = header_few (bytes_eq magic h.magic) (is_command h.command) (nat_le h.size PAYLOAD_LIMIT) offset h (drop 24 bytes) refl e in
    let left = length-drop 24 bytes in
    omega (arith, few, left)

-- fewer bytes than the longest frame has
pub partial-few : (magic : List ℕ) (offset : ℕ) (bytes : List ℕ) → front_of magic offset bytes ≡ PartialFrame → length bytes < 24 + PAYLOAD_LIMIT
partial-few magic offset bytes e = length_few (nat_le 24 (length bytes)) magic offset bytes refl e
