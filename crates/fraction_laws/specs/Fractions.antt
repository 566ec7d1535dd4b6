-- Fractions whose terms are sums of odd powers.
--
-- The odd powers of e from e ^ (2 i + 1) on are the terms of e ^ (2 i + 1) / (1 + e ^ 2 y), a series in y. So those of
-- many elements together are the terms of one fraction, whose denominator is the product of the 1 + e ^ 2 y.
use Rattle.std.specs.Prelude.{ℕ, zero, suc, ◌+◌, ◌*◌, List, [], ◌∷◌}
use Rattle.field_rules.specs.Ops.{Ops, power}

module _ {A : Type 0} (ops : Ops A) where
  -- the coefficient of y ^ j in the product of 1 + e ^ 2 y over the elements
  unfoldable pub denominator : List A → ℕ → A
  denominator [] zero = ops.one
  denominator [] (suc j) = ops.zero
  denominator (e ∷ es) zero = denominator es zero
  denominator (e ∷ es) (suc j) = ops.plus (denominator es (suc j)) (ops.times (ops.times e e) (denominator es j))

  -- the coefficient of y ^ j in the sum of e ^ (2 i + 1) / (1 + e ^ 2 y) over the elements, times that product
  unfoldable pub numerator : ℕ → List A → ℕ → A
  numerator i [] j = ops.zero
  numerator i (e ∷ es) zero = ops.plus (numerator i es zero) (ops.times (power ops e (2 * i + 1)) (denominator es zero))
  numerator i (e ∷ es) (suc j) =
      ops.plus (ops.plus (numerator i es (suc j)) (ops.times (ops.times e e) (numerator i es j))) (ops.times (power ops e (2 * i + 1)) (denominator es (suc j)))
