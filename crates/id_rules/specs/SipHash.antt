-- SipHash-2-4, as Aumasson and Bernstein, SipHash: a fast short-input PRF, section 2, define it. Words are numbers
-- below 2 ^ 64.
use Rattle.std.specs.Prelude.{ℕ, ◌+◌, ◌*◌, ◌%◌, ◌^◌, List, [], ◌∷◌, length, fold, bit_xor}
use Rattle.std.specs.Int.{w64, rotate_left, from_le_bytes}

-- the four words of the inner state
pub record SipState : Type 0 where
  pub v0 : ℕ
  pub v1 : ℕ
  pub v2 : ℕ
  pub v3 : ℕ

-- the sum of two words, without the carry
abbrev pub word_sum : ℕ → ℕ → ℕ
word_sum x y = (x + y) % 2 ^ 64

-- half of a round: v1 is added to v0 and v3 to v2; v1 and v3 are turned left by r and by t bits, and the sums beside them
-- are added to them without carries; v0 is turned by 32 bits, and is exchanged with v2
unfoldable pub half_round : ℕ → ℕ → SipState → SipState
half_round r t s = record {
  v0 = word_sum s.v2 s.v3;
  v1 = bit_xor (rotate_left w64 s.v1 r) (word_sum s.v0 s.v1);
  v2 = rotate_left w64 (word_sum s.v0 s.v1) 32;
  v3 = bit_xor (rotate_left w64 s.v3 t) (word_sum s.v2 s.v3);
}

-- a round
abbrev pub sip_round : SipState → SipState
sip_round s = half_round 17 21 (half_round 13 16 s)

-- the state for the two words of a key
abbrev pub sip_start : ℕ → ℕ → SipState
sip_start k0 k1 = record {
  v0 = bit_xor k0 0x736f6d6570736575;
  v1 = bit_xor k1 0x646f72616e646f6d;
  v2 = bit_xor k0 0x6c7967656e657261;
  v3 = bit_xor k1 0x7465646279746573;
}

-- one word of the message more
unfoldable pub after_word : SipState → ℕ → SipState
after_word s m = let t = sip_round (sip_round (record s { v3 = bit_xor s.v3 m })) in record t { v0 = bit_xor t.v0 m }

-- the words of a message of n bytes: 8 bytes each, the lowest first. The last word has the bytes left, fewer than 8,
-- and n modulo 256 as its highest byte
unfoldable pub words_of : ℕ → List ℕ → List ℕ
words_of n (a ∷ b ∷ c ∷ d ∷ e ∷ f ∷ g ∷ h ∷ rest) = from_le_bytes w64 (a ∷ b ∷ c ∷ d ∷ e ∷ f ∷ g ∷ h ∷ []) ∷ words_of n rest
words_of n fewer = (from_le_bytes w64 fewer + n % 256 * 2 ^ 56) ∷ []

-- the answer of a state that has taken the whole message
unfoldable pub sip_digest : SipState → ℕ
sip_digest s =
    let t = sip_round (sip_round (sip_round (sip_round (record s { v2 = bit_xor s.v2 0xff }))))
    in bit_xor (bit_xor t.v0 t.v1) (bit_xor t.v2 t.v3)

-- SipHash-2-4 of bytes under a key
unfoldable pub sip24 : ℕ → ℕ → List ℕ → ℕ
sip24 k0 k1 bytes = sip_digest (fold after_word (sip_start k0 k1) (words_of (length bytes) bytes))
