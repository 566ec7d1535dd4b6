-- The product of two polynomials by windows of 4 bits.
use Rattle.std.proofs.Common.{◌≡◌, ℕ, zero, suc, ◌+◌, ◌-◌, ◌*◌, ◌/◌, ◌%◌, ◌^◌, ◌<◌, List, [], ◌∷◌, slice_index, bit_and, sym, ◌∙◌, ap, subst, arith, pow_mono, lit<}
use Rattle.std.specs.Int.Bits.{bit_xor, xor_zero_r, xor_zero_l}
use Rattle.std.proofs.Math.Nat.{zero-mul, one-mul, mul-one, mod-lt, mod-eq_of_lt, le_trans}
use Rattle.std.proofs.lemmas.Nat.{and_mask, shr-shr}
use Rattle.field_rules.specs.Elements.{carryless_product}
use Rattle.field_laws.proofs.Carryless.{carryless_product-lt, carryless_product-window}

-- the exclusive or of those of the four terms at which the list index has a 1, the first at its lowest bit
abbrev pub nibble_sums : ℕ → ℕ → ℕ → ℕ → List ℕ
nibble_sums one two four eight =
    0 ∷ one ∷ two ∷ bit_xor one two
    ∷ four ∷ bit_xor one four ∷ bit_xor two four ∷ bit_xor (bit_xor one two) four
    ∷ eight ∷ bit_xor one eight ∷ bit_xor two eight ∷ bit_xor (bit_xor one two) eight
    ∷ bit_xor four eight ∷ bit_xor (bit_xor one four) eight ∷ bit_xor (bit_xor two four) eight
    ∷ bit_xor (bit_xor (bit_xor one two) four) eight ∷ []

-- the multiples of a by the polynomials of 4 bits
abbrev pub multiples_of : ℕ → List ℕ
multiples_of a = nibble_sums a (a * 2) (a * 4) (a * 8)

pub multiples_are : (a k : ℕ) → k < 16 → slice_index (multiples_of a) k ≡ carryless_product 4 a k
unfolding carryless_product
multiples_are a zero lt = simp (zero-mul, xor_zero_r)
multiples_are a (suc zero) lt = simp (zero-mul, one-mul, mul-one, xor_zero_r)
multiples_are a (suc (suc zero)) lt = simp (zero-mul, one-mul, mul-one, xor_zero_r, xor_zero_l)
multiples_are a (suc (suc (suc zero))) lt = simp (zero-mul, one-mul, mul-one, xor_zero_r)
multiples_are a (suc (suc (suc (suc zero)))) lt = simp (zero-mul, one-mul, mul-one, xor_zero_r, xor_zero_l)
multiples_are a (suc (suc (suc (suc (suc zero))))) lt = simp (zero-mul, one-mul, mul-one, xor_zero_r)
multiples_are a (suc (suc (suc (suc (suc (suc zero)))))) lt = simp (zero-mul, one-mul, mul-one, xor_zero_r, xor_zero_l)
multiples_are a (suc (suc (suc (suc (suc (suc (suc zero))))))) lt = simp (zero-mul, one-mul, mul-one, xor_zero_r)
multiples_are a (suc (suc (suc (suc (suc (suc (suc (suc k)))))))) lt = upper k (omega arith)
  where
    upper : (k : ℕ) → k < 8 → slice_index (multiples_of a) (suc (suc (suc (suc (suc (suc (suc (suc k)))))))) ≡ carryless_product 4 a (suc (suc (suc (suc (suc (suc (suc (suc k))))))))
    upper zero lt = simp (zero-mul, one-mul, mul-one, xor_zero_l)
    upper (suc zero) lt = simp (zero-mul, one-mul, mul-one, xor_zero_r)
    upper (suc (suc zero)) lt = simp (zero-mul, one-mul, mul-one, xor_zero_r, xor_zero_l)
    upper (suc (suc (suc zero))) lt = simp (zero-mul, one-mul, mul-one, xor_zero_r)
    upper (suc (suc (suc (suc zero)))) lt = simp (zero-mul, one-mul, mul-one, xor_zero_l)
    upper (suc (suc (suc (suc (suc zero))))) lt = simp (zero-mul, one-mul, mul-one, xor_zero_r)
    upper (suc (suc (suc (suc (suc (suc zero)))))) lt = simp (zero-mul, one-mul, mul-one, xor_zero_l)
    upper (suc (suc (suc (suc (suc (suc (suc zero))))))) lt = simp (one-mul, mul-one)
    upper (suc (suc (suc (suc (suc (suc (suc (suc k)))))))) lt = absurd (omega arith)

-- a window is the number of a multiple
pub window-below : (n : ℕ) → bit_and n 15 < 16
window-below n = rw (and_mask n 4) (mod-lt n (lit< tt))

-- one window more
pub window-next : (a b sum i : ℕ) → a < 2 ^ 32 → i < 8 → sum ≡ carryless_product (4 * i) a (b / 2 ^ (32 - 4 * i))
    → bit_xor (sum * 16 % 2 ^ 64) (carryless_product 4 a (bit_and (b / 2 ^ (28 - 4 * i)) 15)) ≡ carryless_product (4 * (i + 1)) a (b / 2 ^ (32 - 4 * (i + 1)))
window-next a b sum i a_fits lt is =
    ap (λ z. bit_xor z (carryless_product 4 a (bit_and (b / 2 ^ (28 - 4 * i)) 15))) kept
    ∙ ap (λ z. bit_xor (sum * 16) (carryless_product 4 a z)) (and_mask (b / 2 ^ (28 - 4 * i)) 4)
    ∙ ap (λ z. bit_xor (z * 16) (carryless_product 4 a (b / 2 ^ (28 - 4 * i) % 2 ^ 4))) (is ∙ ap (carryless_product (4 * i) a) (sym upper))
    ∙ sym (carryless_product-window 4 (4 * i) a (b / 2 ^ (28 - 4 * i)))
    ∙ ap (λ z. carryless_product z a (b / 2 ^ (28 - 4 * i))) longer
    ∙ ap (λ z. carryless_product (4 * (i + 1)) a (b / 2 ^ z)) index
  where
    longer : 4 + 4 * i ≡ 4 * (i + 1)
    longer = omega arith

    index : 28 - 4 * i ≡ 32 - 4 * (i + 1)
    index = omega arith

    above : 28 - 4 * i + 4 ≡ 32 - 4 * i
    above = omega arith

    upper : b / 2 ^ (28 - 4 * i) / 2 ^ 4 ≡ b / 2 ^ (32 - 4 * i)
    upper = shr-shr b (28 - 4 * i) 4 ∙ ap (λ n. b / 2 ^ n) above

    fits : sum < 2 ^ 60
    fits = subst (λ z. z < 2 ^ 60) (sym is) (le_trans (carryless_product-lt 32 (4 * i) a (b / 2 ^ (32 - 4 * i)) a_fits) (pow_mono {j = 60} (omega arith)))

    kept : sum * 16 % 2 ^ 64 ≡ sum * 16
    kept = mod-eq_of_lt (omega (arith, fits))
