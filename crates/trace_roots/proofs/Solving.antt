-- A set of two members, and its polynomial.
use Rattle.std.proofs.Common.{◌≡◌, ◌≢◌, ◌⊎◌, inl, inr, ℕ, List, [], ◌∷◌, get_or, refl, sym, ap, ◌∙◌, subst, arith}
use Rattle.std.specs.List.Sorted.{IsPermutation}
use Rattle.std.proofs.lemmas.List.Sorted.{IsPermutation-refl, IsPermutation-reverse}
use Rattle.field_rules.specs.Ops.{Ops, IsRing}
use Rattle.field_rules.specs.Fields.{IsField}
use Rattle.field_rules.specs.Lists.{AreDistinct}
use Rattle.poly_rules.specs.Polynomials.{degree}
use Rattle.poly_rules.specs.Roots.{with_roots}
use Rattle.field_laws.proofs.RingFacts.{same_of_sum}
use Rattle.sequence_laws.proofs.Two.{with_roots-two, one_solution, two_members}
use Rattle.trace_roots.proofs.Parting.{degree_of_set}

module _ {A : Type 0} (ops : Ops A) (ring : IsRing ops) where
  -- the two members, and their polynomial's lower coefficients
  pub record IsPair (es : List A) (c b : A) : Type 0 where
    pub x : A
    pub y : A
    pub members : es ≡ x ∷ y ∷ []
    pub product : c ≡ ops.times x y
    pub sum : b ≡ ops.plus x y

  pub pair_of : (f es : List A) (c b : A) → degree f ≡ 2 → f ≡ with_roots ops es → c ≡ get_or f 0 c → b ≡ get_or f 1 b → IsPair es c b
  pair_of f es c b two is c_is b_is = by_list es is
    where
      by_list : (es : List A) → f ≡ with_roots ops es → IsPair es c b
      by_list [] is = absurd (omega (arith, two, degree_of_set ops ring f [] is))
      by_list (x ∷ []) is = absurd (omega (arith, two, degree_of_set ops ring f (x ∷ []) is))
      by_list (x ∷ y ∷ []) is = record {
        x = x;
        y = y;
        members = refl;
        product = c_is ∙ ap (λ z. get_or z 0 c) (is ∙ with_roots-two ops ring x y);
        sum = b_is ∙ ap (λ z. get_or z 1 b) (is ∙ with_roots-two ops ring x y);
      }
      by_list (x ∷ y ∷ z ∷ es) is = absurd (omega (arith, two, degree_of_set ops ring f (x ∷ y ∷ z ∷ es) is))

  module _ (es : List A) (c b : A) (pair : IsPair es c b) where
    -- distinct members have a sum other than zero
    pub pair_sum : AreDistinct es → b ≢ ops.zero
    pair_sum distinct none =
        subst AreDistinct pair.members distinct 0 1 b (omega arith) (omega arith) (same_of_sum ops ring pair.x pair.y (sym pair.sum ∙ none))

    -- the equation has a solution
    pub pair_solution : (i : A) → ops.times b i ≡ ops.one → (a : A) → a ≡ ops.times c (ops.times i i) → (z : A) × (ops.plus (ops.times z z) z ≡ a)
    pair_solution i inverse a a_is = (
      ops.times pair.x i,
      one_solution ops ring pair.x pair.y i (ap (λ w. ops.times w i) (sym pair.sum) ∙ inverse) ∙ ap (λ w. ops.times w (ops.times i i)) (sym pair.product) ∙ sym a_is,
    )

    -- and each gives the members
    pub pair_members : (width : ℕ) → IsField ops width → (i z : A) → ops.times b i ≡ ops.one → ops.plus (ops.times z z) z ≡ ops.times c (ops.times i i)
        → IsPermutation es (ops.times b z ∷ ops.plus (ops.times b z) b ∷ [])
    pair_members width field i z inverse solves =
        subst (λ w. IsPermutation w (ops.times b z ∷ ops.plus (ops.times b z) b ∷ [])) (sym pair.members)
        (in_order
        (two_members ops ring width field pair.x pair.y b c i z
        (with_roots-two ops ring pair.x pair.y ∙ ap (λ w. w ∷ ops.plus pair.x pair.y ∷ ops.one ∷ []) (sym pair.product) ∙ ap (λ w. c ∷ w ∷ ops.one ∷ []) (sym pair.sum)) inverse solves))
      where
        in_order : {x y v w : A} → ((v ≡ x) × (w ≡ y)) ⊎ ((v ≡ y) × (w ≡ x)) → IsPermutation (x ∷ y ∷ []) (v ∷ w ∷ [])
        in_order {x} {y} {v} {w} (inl (first, second)) =
            subst (IsPermutation (x ∷ y ∷ [])) (ap (λ z. z ∷ y ∷ []) (sym first) ∙ ap (λ z. v ∷ z ∷ []) (sym second)) (IsPermutation-refl (x ∷ y ∷ []))
        in_order {x} {y} {v} {w} (inr (first, second)) =
            subst (IsPermutation (x ∷ y ∷ [])) (ap (λ z. z ∷ x ∷ []) (sym first) ∙ ap (λ z. v ∷ z ∷ []) (sym second)) (IsPermutation-reverse (x ∷ y ∷ []))
