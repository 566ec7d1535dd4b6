-- Ids of transactions, and their short ids between two nodes.
use Rattle.std.specs.Prelude.{ℕ, ◌+◌, ◌%◌, nat_le, if◌then◌else◌, List, ◌++◌, take, slice_range, codes}
use Rattle.std.specs.Int.{w64, to_le_bytes, from_le_bytes}
use Rattle.sha2.specs.Sha256.{sha256}
use Rattle.base_types.specs.declared.lists.Hash32.{Hash32}
use Rattle.id_rules.specs.SipHash.{sip24}

-- the double SHA-256 (FIPS 180-4) of bytes
abbrev pub double_sha256 : List ℕ → List ℕ
double_sha256 bytes = sha256 (sha256 bytes)

-- the id of a transaction: the double SHA-256 of its bytes as they are sent with witness (BIP 141, transaction ID)
abbrev pub wtxid : List ℕ → Hash32
wtxid tx = record { 0 = double_sha256 tx }

-- the two words of a key
pub record KeyPair : Type 0 where
  pub k0 : ℕ
  pub k1 : ℕ

-- the tag of the salted key, as BIP 340 tags hashes
unfoldable pub salting_tag : List ℕ
salting_tag = sha256 (codes "Tx Relay Salting")

-- the tagged hash of two salts (BIP 330, sendtxrcncl)
unfoldable pub salted_hash : ℕ → ℕ → List ℕ
salted_hash low high = sha256 (salting_tag ++ salting_tag ++ to_le_bytes w64 low ++ to_le_bytes w64 high)

-- a key from the first 16 bytes of a hash, the lowest byte of each word first
unfoldable pub key_in : List ℕ → KeyPair
key_in bytes = record { k0 = from_le_bytes w64 (take 8 bytes); k1 = from_le_bytes w64 (slice_range bytes 8 16) }

-- the key of the salts of both nodes, in either order: the smaller one is hashed first
unfoldable pub keys_of : ℕ → ℕ → KeyPair
keys_of a b = key_in (if nat_le a b then salted_hash a b else salted_hash b a)

-- the short id of a transaction under a key. It has 32 bits and is never 0. That it is taken of the 32 bytes of the id
-- as they are stored is this project's own
unfoldable pub short_id : KeyPair → Hash32 → ℕ
short_id keys id = 1 + sip24 keys.k0 keys.k1 id.0 % 0xFFFFFFFF
