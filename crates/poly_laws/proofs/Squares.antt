-- The square of a polynomial has the squares of its coefficients at even indices, and zeros between them.
use Rattle.std.proofs.Common.{List, [], ◌∷◌, refl}
use Rattle.field_rules.specs.Ops.{Ops, IsRing}
use Rattle.poly_rules.specs.Polynomials.{IsSamePolynomial, sum_of, scalar_multiple, product_of}
use Rattle.poly_laws.specs.Squares.{with_zeros, square_of}
use Rattle.poly_laws.proofs.Sums.{same_self, same_back, same_along, same_cons, sum_same, sum_assoc, sum_self}
use Rattle.poly_laws.proofs.Products.{product_cons}

module _ {A : Type 0} (ops : Ops A) (ring : IsRing ops) where
  -- what is added twice is gone
  sum_twice : (f g : List A) → IsSamePolynomial ops (sum_of ops f (sum_of ops f g)) g
  unfolding sum_of
  sum_twice f g =
      same_along ops (same_back ops (sum_assoc ops ring f f g))
      (sum_same ops ring {f' = []} (sum_self ops ring f) (same_self ops g))

  pub square_is : (f : List A) → IsSamePolynomial ops (product_of ops f f) (square_of ops f)
  unfolding product_of sum_of with_zeros
  square_is [] = same_self ops []
  square_is (a ∷ f) =
      same_cons ops (ops.plus (ops.times a a) ops.zero) (ops.times a a) (ring.plus_zero (ops.times a a))
      (same_along ops (sum_same ops ring (same_self ops (scalar_multiple ops a f)) (product_cons ops ring f a f))
      (same_along ops (sum_twice (scalar_multiple ops a f) (ops.zero ∷ product_of ops f f))
      (same_cons ops ops.zero ops.zero refl (square_is f))))
