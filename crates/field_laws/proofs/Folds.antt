-- Folding at 32 bits: the bits from 32 on, times the low terms of the modulus, are added to those below.
use Rattle.std.proofs.Common.{◌≡◌, ℕ, ◌+◌, ◌*◌, ◌/◌, ◌%◌, ◌^◌, ◌<◌, sym, ap, ◌∙◌, ◌≤◌, lit<, subst, pow_mono}
use Rattle.std.specs.Int.Bits.{bit_xor, xor_zero_r, xor_zero_l, xor_comm, xor_self, xor_lt}
use Rattle.std.proofs.Math.Nat.{zero-mul, one-mul, mul-one, le_trans, mod-lt}
use Rattle.std.proofs.lemmas.Nat.{pow_pos, shr_below}
use Rattle.field_rules.specs.Elements.{carryless_product, low_terms, IsWidth}
use Rattle.field_laws.specs.Rests.{IsRest}
use Rattle.field_laws.proofs.Xors.{xor_split, xor_swap}
use Rattle.field_laws.proofs.Carryless.{carryless_product-enough, carryless_product-lt}
use Rattle.field_laws.proofs.Remainders.{multiple_split}

-- one fold at any width
pub fold_rest : (width p : ℕ) → IsWidth width → IsRest width p (bit_xor (p % 2 ^ width) (carryless_product width (p / 2 ^ width) (low_terms width)))
fold_rest width p w = record {
  quotient = p / 2 ^ width;
  divides = sym (whole (low_terms width) w);
}
  where
    whole : (l : ℕ) → l < 2 ^ width → bit_xor (carryless_product (width + 1) (p / 2 ^ width) (2 ^ width + l)) (bit_xor (p % 2 ^ width) (carryless_product width (p / 2 ^ width) l)) ≡ p
    whole l low =
        ap (λ z. bit_xor z (bit_xor (p % 2 ^ width) (carryless_product width (p / 2 ^ width) l))) (multiple_split width l low (p / 2 ^ width))
        ∙ ap (bit_xor (bit_xor (carryless_product width (p / 2 ^ width) l) (p / 2 ^ width * 2 ^ width))) (xor_comm (p % 2 ^ width) (carryless_product width (p / 2 ^ width) l))
        ∙ xor_swap (carryless_product width (p / 2 ^ width) l) (p / 2 ^ width * 2 ^ width) (carryless_product width (p / 2 ^ width) l) (p % 2 ^ width)
        ∙ ap (λ z. bit_xor z (bit_xor (p / 2 ^ width * 2 ^ width) (p % 2 ^ width))) (xor_self (carryless_product width (p / 2 ^ width) l))
        ∙ xor_zero_l (bit_xor (p / 2 ^ width * 2 ^ width) (p % 2 ^ width))
        ∙ xor_split p width

-- one fold at 32 bits, where the low terms have 8 bits
pub fold_once : (p : ℕ) → IsRest 32 p (bit_xor (p % 2 ^ 32) (carryless_product 8 (p / 2 ^ 32) 0x8D))
fold_once p =
    subst (λ z. IsRest 32 p (bit_xor (p % 2 ^ 32) z)) (carryless_product-enough 32 8 (p / 2 ^ 32) 0x8D (lit< tt) (lit< tt)) (fold_rest 32 p (lit< tt))

-- one fold of a number of 32 + i bits leaves 32 bits, or i + 8 where that is more
pub fold_below : (i k p : ℕ) → p < 2 ^ (i + 32) → 32 ≤ k → i + 8 ≤ k → bit_xor (p % 2 ^ 32) (carryless_product 8 (p / 2 ^ 32) 0x8D) < 2 ^ k
fold_below i k p fits wide long =
    xor_lt k (p % 2 ^ 32) (carryless_product 8 (p / 2 ^ 32) 0x8D) (le_trans (mod-lt p (pow_pos 32)) (pow_mono wide))
    (le_trans (carryless_product-lt i 8 (p / 2 ^ 32) 0x8D (shr_below p i 32 fits)) (pow_mono long))

-- the multiple of h by the low terms, by shifts
pub low_multiple : (h : ℕ) → carryless_product 8 h 0x8D ≡ bit_xor (bit_xor (bit_xor h (h * 4)) (h * 8)) (h * 128)
unfolding carryless_product
low_multiple h = simp (zero-mul, one-mul, mul-one, xor_zero_r)
