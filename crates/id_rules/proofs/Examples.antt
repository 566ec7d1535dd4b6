-- Worked examples, computed from the definitions alone.
use Rattle.std.proofs.Common.{◌≡◌, refl}
use Rattle.std.specs.Prelude.{codes}
use Rattle.hex.specs.Hex.{encode_lower}
use Rattle.id_rules.specs.SipHash.{sip24}
use Rattle.id_rules.specs.Ids.{KeyPair, wtxid, keys_of, short_id}
use Rattle.id_rules.proofs.Samples.{hashing, sipping, from_digits}

-- the SipHash paper's test vector, of its appendix A: a key of the bytes 00 to 0f, a message of the bytes 00 to 0e
vector : sip24 0x0706050403020100 0x0f0e0d0c0b0a0908 (from_digits (codes "000102030405060708090a0b0c0d0e")) ≡ 0xa129ca6149be45e5
unfolding hashing sipping
vector = refl

-- the ids of the bytes of 'hello' and 'abc'
hello : encode_lower (wtxid (codes "hello")).0 ≡ codes "9595c9df90075148eb06860365df33584b75bff782a510c6cd4883a419833d50"
unfolding hashing
hello = refl

abc : encode_lower (wtxid (codes "abc")).0 ≡ codes "4f8b42c22dd3729b519ba6f68d2da7cc5b2d606d05daed5ad5128cc03e6c6358"
unfolding hashing
abc = refl

-- the key of the salts 1 and 2, in both orders
abbrev key : KeyPair
key = record { k0 = 0x5a63d27439e052a4; k1 = 0xc8daf59f8d6921b9 }

keys : keys_of 1 2 ≡ key
unfolding hashing
keys = refl

keys_exchanged : keys_of 2 1 ≡ key
unfolding hashing
keys_exchanged = refl

-- the short ids of 'hello' and 'abc' under it
hello_short : short_id key (wtxid (codes "hello")) ≡ 0xd977c38b
unfolding hashing sipping
hello_short = refl

abc_short : short_id key (wtxid (codes "abc")) ≡ 0x7d73875b
unfolding hashing sipping
abc_short = refl
