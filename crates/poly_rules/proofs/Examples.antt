-- Worked examples, computed from the definitions alone.
use Rattle.std.proofs.Common.{◌≡◌, ℕ, zero, suc, ◌+◌, ◌<◌, ◌≤◌, [], ◌∷◌, get_or, drop, refl, arith, lit<}
use Rattle.field_rules.specs.Fields.{dot_of}
use Rattle.field_rules.specs.Elements.{carryless_product, remainder, product, numbers}
use Rattle.poly_rules.specs.Polynomials.{value_at, sum_of, product_of, monomial}
use Rattle.poly_rules.specs.Remainders.{IsRemainder}
use Rattle.poly_rules.specs.Recurrences.{IsExtension, IsRecurrence}

-- x ^ 2 + 3x + 2 is 0 at 1
root : value_at (numbers 32) (2 ∷ 3 ∷ 1 ∷ []) 1 ≡ 0
unfolding product remainder carryless_product value_at
root = refl

-- (x + 1) * (x + 2) is x ^ 2 + 3x + 2
factors : product_of (numbers 32) (1 ∷ 1 ∷ []) (2 ∷ 1 ∷ []) ≡ 2 ∷ 3 ∷ 1 ∷ []
unfolding product remainder carryless_product product_of sum_of
factors = refl

-- x ^ 3 is (x + 1) * (x ^ 2 + x + 1) + 1, so it leaves 1
cube : IsRemainder (numbers 32) (monomial (numbers 32) 3) (1 ∷ 1 ∷ 1 ∷ []) (1 ∷ [])
unfolding product remainder carryless_product product_of sum_of
cube = record { below = lit< tt; quotient = 1 ∷ 1 ∷ []; divides = record { each = λ i. refl } }

-- the square of x leaves x + 1
square : IsRemainder (numbers 32) (product_of (numbers 32) (0 ∷ 1 ∷ []) (0 ∷ 1 ∷ [])) (1 ∷ 1 ∷ 1 ∷ []) (1 ∷ 1 ∷ [])
unfolding product remainder carryless_product product_of sum_of
square = record { below = lit< tt; quotient = 1 ∷ []; divides = record { each = λ i. refl } }

-- x ^ 2 + 3x + 2 takes 3 and 5 on to 9 and 0x11
extension : IsExtension (numbers 32) (2 ∷ 3 ∷ 1 ∷ []) (3 ∷ 5 ∷ []) 4 (3 ∷ 5 ∷ 9 ∷ 0x11 ∷ [])
unfolding product remainder carryless_product dot_of
extension = record { size = refl; begins = refl; goes_on = on }
  where
    on : (k : ℕ) → 2 ≤ k + 2 → k + 2 < 4 → get_or (3 ∷ 5 ∷ 9 ∷ 0x11 ∷ []) (k + 2) 0 ≡ dot_of (numbers 32) (2 ∷ 3 ∷ []) (drop k (3 ∷ 5 ∷ 9 ∷ 0x11 ∷ []))
    on zero from below = refl
    on (suc zero) from below = refl
    on (suc (suc k)) from below = absurd (omega arith)

-- the same as a recurrence: 9 is 3 * 5 + 2 * 3, and 0x11 is 3 * 9 + 2 * 5
recurrence : IsRecurrence (numbers 32) (3 ∷ 2 ∷ []) (3 ∷ 5 ∷ 9 ∷ 0x11 ∷ [])
unfolding product remainder carryless_product dot_of
recurrence = record { each = each }
  where
    each : (k : ℕ) → k + 2 < 4 → get_or (3 ∷ 5 ∷ 9 ∷ 0x11 ∷ []) (k + 2) 0 ≡ dot_of (numbers 32) (2 ∷ 3 ∷ []) (drop k (3 ∷ 5 ∷ 9 ∷ 0x11 ∷ []))
    each zero below = refl
    each (suc zero) below = refl
    each (suc (suc k)) below = absurd (omega arith)

-- zeros alone follow the recurrence of length 0
zeros : IsRecurrence (numbers 32) [] (0 ∷ 0 ∷ [])
unfolding dot_of
zeros = record { each = each }
  where
    each : (k : ℕ) → k + 0 < 2 → get_or (0 ∷ 0 ∷ []) (k + 0) 0 ≡ dot_of (numbers 32) [] (drop k (0 ∷ 0 ∷ []))
    each zero below = refl
    each (suc zero) below = refl
    each (suc (suc k)) below = absurd (omega arith)
