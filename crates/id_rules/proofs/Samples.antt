-- What the worked examples share.
use Rattle.std.proofs.Common.{ℕ, List, [], Result, Ok, Err}
use Rattle.hex.specs.Hex.{decode_of, decode_pairs, encode_with}
use Rattle.hex.specs.declared.error.FromHexError.{FromHexError}
use Rattle.sha2.specs.Sha256.{sha256, digest_bytes, hash_after, compress, rounds, schedule, first_words}
use Rattle.id_rules.specs.SipHash.{half_round, after_word, words_of, sip_digest, sip24}
use Rattle.id_rules.specs.Ids.{salting_tag, salted_hash, key_in, keys_of, short_id}

-- an example that has this in its line `unfolding` computes digits, SHA-256 and keys
unfoldable pub hashing : Unit {0}
unfolding decode_pairs encode_with sha256 digest_bytes hash_after compress rounds schedule first_words salting_tag salted_hash key_in keys_of
hashing = tt

-- the same for SipHash and short ids
unfoldable pub sipping : Unit {0}
unfolding half_round after_word words_of sip_digest sip24 short_id
sipping = tt

abbrev pub or_none : Result (List ℕ) FromHexError → List ℕ
or_none (Ok bytes) = bytes
or_none (Err e) = []

-- the bytes that digits spell
abbrev pub from_digits : List ℕ → List ℕ
from_digits text = or_none (decode_of text)
