-- The polynomial whose factors are those of 1 + e z, and its halves.
--
-- It is E + z O, where E and O are polynomials in y = z ^ 2: its coefficients at even and at odd places. The fraction of
-- the elements is E O / (E ^ 2 + y O ^ 2), whose denominator has the squares of its coefficients.
use Rattle.std.specs.Prelude.{ℕ, zero, suc, ◌+◌, ◌*◌, List, [], ◌∷◌}
use Rattle.field_rules.specs.Ops.{Ops}

module _ {A : Type 0} (ops : Ops A) where
  -- the coefficient of z ^ j in the product of 1 + e z over the elements
  unfoldable pub locator : List A → ℕ → A
  locator [] zero = ops.one
  locator [] (suc j) = ops.zero
  locator (e ∷ es) zero = locator es zero
  locator (e ∷ es) (suc j) = ops.plus (locator es (suc j)) (ops.times e (locator es j))

  -- the coefficient of y ^ i in its half E
  abbrev pub even_half : List A → ℕ → A
  even_half es i = locator es (2 * i)

  -- the coefficient of y ^ i in its half O
  abbrev pub odd_half : List A → ℕ → A
  odd_half es i = locator es (2 * i + 1)

  -- the coefficient of y ^ j in the product of two series, which are given by their coefficients
  unfoldable pub series_product : (ℕ → A) → (ℕ → A) → ℕ → A
  series_product f g zero = ops.times (f 0) (g 0)
  series_product f g (suc j) = ops.plus (ops.times (f 0) (g (suc j))) (series_product (λ i. f (suc i)) g j)
