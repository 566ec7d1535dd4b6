-- The products of factors of the parts of a set, and of sets of one member.
use Rattle.std.proofs.Common.{◌≡◌, Bool, true, false, not, cond, List, [], ◌∷◌, ap, ◌∙◌}
use Rattle.std.specs.Prelude.{filter}
use Rattle.field_rules.specs.Ops.{Ops, IsRing}
use Rattle.poly_rules.specs.Polynomials.{IsSamePolynomial, sum_of, product_of}
use Rattle.poly_rules.specs.Roots.{with_roots}
use Rattle.poly_laws.proofs.Sums.{same_along, scaled_one}
use Rattle.poly_laws.proofs.Products.{product_same_r, product_assoc, product_comm, product_constant}

module _ {A : Type 0} (ops : Ops A) (ring : IsRing ops) where
  -- the products of the factors of the two parts give that of the whole
  pub with_roots-parts : (p : A → Bool) (es : List A) → IsSamePolynomial ops (product_of ops (with_roots ops (filter p es)) (with_roots ops (filter (λ e. not (p e)) es))) (with_roots ops es)
  unfolding with_roots
  with_roots-parts p [] = same_along ops (product_constant ops ring ops.one (ops.one ∷ [])) (scaled_one ops ring (ops.one ∷ []))
  with_roots-parts p (e ∷ es) = by_test (p e) (with_roots-parts p es)
    where
      part : List A
      part = filter p es

      others : List A
      others = filter (λ x. not (p x)) es

      factor : List A
      factor = e ∷ ops.one ∷ []

      by_test : (b : Bool) → IsSamePolynomial ops (product_of ops (with_roots ops part) (with_roots ops others)) (with_roots ops es)
          → IsSamePolynomial ops (product_of ops (with_roots ops (cond b (e ∷ part) part)) (with_roots ops (cond (not b) (e ∷ others) others))) (product_of ops factor (with_roots ops es))
      by_test true rest =
          same_along ops (product_assoc ops ring factor (with_roots ops part) (with_roots ops others))
          (product_same_r ops ring factor rest)
      by_test false rest =
          same_along ops (product_comm ops ring (with_roots ops part) (product_of ops factor (with_roots ops others)))
          (same_along ops (product_assoc ops ring factor (with_roots ops others) (with_roots ops part))
          (product_same_r ops ring factor (same_along ops (product_comm ops ring (with_roots ops others) (with_roots ops part)) rest)))

  -- the factor of a lone member
  pub with_roots-lone : (e : A) → with_roots ops (e ∷ []) ≡ e ∷ ops.one ∷ []
  unfolding with_roots product_of sum_of
  with_roots-lone e =
      ap (λ z. z ∷ ops.plus (ops.times ops.one ops.one) ops.zero ∷ []) (ring.plus_zero (ops.times e ops.one) ∙ ring.times_one e)
      ∙ ap (λ z. e ∷ z ∷ []) (ring.plus_zero (ops.times ops.one ops.one) ∙ ring.times_one ops.one)
