-- Ids, keys and short ids.
use Rattle.std.proofs.Common.{◌≡◌, ℕ, zero, suc, ◌^◌, ◌<◌, ◌==◌, nat_le, Bool, true, false, List, length, slice_index, if◌then◌else◌, refl, sym, ap, ap₂, arith, eq-eqb}
use Rattle.std.specs.Int.{to_be_bytes, w32}
use Rattle.std.proofs.lemmas.Bool.{and_from, leb-true, leb-false}
use Rattle.sha2.specs.Sha256.{sha256, digest_bytes, final_hash, initial_hash_256}
use Rattle.sha2.proofs.Facts256.{length-sha256}
use Rattle.base_types.specs.declared.lists.Hash32.{Hash32}
use Rattle.id_rules.specs.Bytes.{are_bytes, is_id}
use Rattle.id_rules.specs.Ids.{KeyPair, wtxid, salted_hash, key_in, keys_of, short_id}
use Rattle.id_rules.proofs.Bytes.{bytes_join, are_bytes-high_first}

-- ---- an id

are_bytes-digest : (h : List ℕ) (n : ℕ) → are_bytes (digest_bytes h n) ≡ true
unfolding digest_bytes
are_bytes-digest h zero = refl
are_bytes-digest h (suc n) = bytes_join (digest_bytes h n) (to_be_bytes w32 (slice_index h n)) (are_bytes-digest h n) (are_bytes-high_first 4 (slice_index h n))

are_bytes-sha256 : (m : List ℕ) → are_bytes (sha256 m) ≡ true
unfolding sha256
are_bytes-sha256 m = are_bytes-digest (final_hash initial_hash_256 m) 8

-- an id has 32 bytes
pub wtxid-bytes : (tx : List ℕ) → is_id (wtxid tx) ≡ true
wtxid-bytes tx = and_from (length (sha256 (sha256 tx)) == 32) (are_bytes (sha256 (sha256 tx))) (eq-eqb (length (sha256 (sha256 tx))) 32 (length-sha256 (sha256 tx))) (are_bytes-sha256 (sha256 tx))

-- ---- keys and short ids

-- both salts are hashed in one order
keys_of-order : (x y : Bool) (a b : ℕ) → nat_le a b ≡ x → nat_le b a ≡ y → (if x then salted_hash a b else salted_hash b a) ≡ (if y then salted_hash b a else salted_hash a b)
keys_of-order true true a b h k =
    let same : a ≡ b = (let up = leb-true a b h in let down = leb-true b a k in omega arith) in ap₂ salted_hash same (sym same)
keys_of-order true false a b h k = refl
keys_of-order false true a b h k = refl
keys_of-order false false a b h k = absurd (let up = leb-false a b h in let down = leb-false b a k in omega arith)

pub keys_of-swap : (a b : ℕ) → keys_of a b ≡ keys_of b a
unfolding keys_of
keys_of-swap a b = ap key_in (keys_of-order (nat_le a b) (nat_le b a) a b refl refl)

pub short_id-nonzero : (keys : KeyPair) (id : Hash32) → 0 < short_id keys id
unfolding short_id
short_id-nonzero keys id = omega arith

pub short_id-small : (keys : KeyPair) (id : Hash32) → short_id keys id < 2 ^ 32
unfolding short_id
short_id-small keys id = omega arith
