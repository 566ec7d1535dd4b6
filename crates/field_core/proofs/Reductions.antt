-- The remainder by the modulus at 32 bits, by two folds.
use Rattle.std.proofs.Common.{◌≡◌, ℕ, ◌*◌, ◌/◌, ◌%◌, ◌^◌, ◌<◌, bit_and, sym, ◌∙◌, ap, subst, arith, lit<, lit≤}
use Rattle.std.specs.Int.Bits.{bit_xor, xor_lt}
use Rattle.std.proofs.Math.Nat.{mod-eq_of_lt, le_refl}
use Rattle.std.proofs.lemmas.Nat.{and_mask, shr_below}
use Rattle.field_rules.specs.Elements.{carryless_product, remainder}
use Rattle.field_laws.specs.Rests.{IsRest}
use Rattle.field_laws.proofs.Folds.{fold_once, fold_below, low_multiple}
use Rattle.field_laws.proofs.Remainders.{rest_only, rest_trans, rest_xor, remainder-below, remainder_is_rest}

-- the multiple of h by the low terms of the modulus, by shifts of 64 bits
abbrev shifted : ℕ → ℕ
shifted h = bit_xor (bit_xor (bit_xor h (h * 4 % 2 ^ 64)) (h * 8 % 2 ^ 64)) (h * 128 % 2 ^ 64)

shifted-is : (h : ℕ) → h < 2 ^ 32 → shifted h ≡ carryless_product 8 h 0x8D
shifted-is h lt =
    let four : h * 4 % 2 ^ 64 ≡ h * 4 = mod-eq_of_lt (omega arith) in
    let eight : h * 8 % 2 ^ 64 ≡ h * 8 = mod-eq_of_lt (omega arith) in
    let high : h * 128 % 2 ^ 64 ≡ h * 128 = mod-eq_of_lt (omega arith) in
    rw (four, eight, high) (sym (low_multiple h))

-- one fold, as the code computes it
pub fold_by_shifts : (p : ℕ) → p < 2 ^ 64
    → bit_xor (bit_and p 0xFFFFFFFF) (bit_xor (bit_xor (bit_xor (p / 2 ^ 32) (p / 2 ^ 32 * 4 % 2 ^ 64)) (p / 2 ^ 32 * 8 % 2 ^ 64)) (p / 2 ^ 32 * 128 % 2 ^ 64))
    ≡ bit_xor (p % 2 ^ 32) (carryless_product 8 (p / 2 ^ 32) 0x8D)
fold_by_shifts p fits =
    ap (λ z. bit_xor z (shifted (p / 2 ^ 32))) (and_mask p 32) ∙ ap (bit_xor (p % 2 ^ 32)) (shifted-is (p / 2 ^ 32) (shr_below p 32 32 fits))

-- two folds leave 32 bits
pub folds-below : (p once twice : ℕ) → p < 2 ^ 64
    → once ≡ bit_xor (p % 2 ^ 32) (carryless_product 8 (p / 2 ^ 32) 0x8D)
    → twice ≡ bit_xor (once % 2 ^ 32) (carryless_product 8 (once / 2 ^ 32) 0x8D)
    → twice < 2 ^ 32
folds-below p once twice fits first second =
    subst (λ z. z < 2 ^ 32) (sym second) (fold_below 8 32 once (subst (λ z. z < 2 ^ 40) (sym first) (fold_below 32 40 p fits (lit≤ tt) (lit≤ tt))) (le_refl 32) (lit≤ tt))

-- and they are the remainder
pub folds-are : (p once twice : ℕ) → p < 2 ^ 64
    → once ≡ bit_xor (p % 2 ^ 32) (carryless_product 8 (p / 2 ^ 32) 0x8D)
    → twice ≡ bit_xor (once % 2 ^ 32) (carryless_product 8 (once / 2 ^ 32) 0x8D)
    → twice ≡ remainder 32 32 p
folds-are p once twice fits first second =
    rest_only 32 p twice (remainder 32 32 p) (lit< tt)
    (rest_trans 32 p once twice (subst (IsRest 32 p) (sym first) (fold_once p)) (subst (IsRest 32 once) (sym second) (fold_once once)))
    (remainder_is_rest 32 32 p (lit< tt))
    (folds-below p once twice fits first second)
    (remainder-below 32 32 p (lit< tt) fits)

-- the remainder of an exclusive or
pub remainder-xor : (p q : ℕ) → p < 2 ^ 64 → q < 2 ^ 64 → remainder 32 32 (bit_xor p q) ≡ bit_xor (remainder 32 32 p) (remainder 32 32 q)
remainder-xor p q fits_p fits_q =
    rest_only 32 (bit_xor p q) (remainder 32 32 (bit_xor p q)) (bit_xor (remainder 32 32 p) (remainder 32 32 q)) (lit< tt)
    (remainder_is_rest 32 32 (bit_xor p q) (lit< tt))
    (rest_xor 32 p (remainder 32 32 p) q (remainder 32 32 q) (remainder_is_rest 32 32 p (lit< tt)) (remainder_is_rest 32 32 q (lit< tt)))
    (remainder-below 32 32 (bit_xor p q) (lit< tt) (xor_lt 64 p q fits_p fits_q))
    (xor_lt 32 (remainder 32 32 p) (remainder 32 32 q) (remainder-below 32 32 p (lit< tt) fits_p) (remainder-below 32 32 q (lit< tt) fits_q))
