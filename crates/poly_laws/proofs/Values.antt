-- Values of sums, multiples and products.
use Rattle.std.proofs.Common.{◌≡◌, zero, suc, List, [], ◌∷◌, refl, sym, ap, ◌∙◌}
use Rattle.field_rules.specs.Ops.{Ops, IsRing}
use Rattle.poly_rules.specs.Polynomials.{IsSamePolynomial, value_at, sum_of, scalar_multiple, product_of}
use Rattle.poly_rules.specs.Remainders.{IsRemainder}
use Rattle.field_laws.proofs.RingFacts.{zero_plus, times_zero, zero_times, distributes_left, plus_swap}
use Rattle.poly_laws.proofs.Sums.{same_back, same_tail}

module _ {A : Type 0} (ops : Ops A) (ring : IsRing ops) where
  value_at-none : (f : List A) (x : A) → IsSamePolynomial ops f [] → value_at ops f x ≡ ops.zero
  unfolding value_at
  value_at-none [] x e = refl
  value_at-none (a ∷ f) x e =
      ap (λ z. ops.plus z (ops.times x (value_at ops f x))) (e.each zero)
      ∙ ap (λ z. ops.plus ops.zero (ops.times x z)) (value_at-none f x (same_tail ops e))
      ∙ zero_plus ops ring (ops.times x ops.zero)
      ∙ times_zero ops ring x

  -- one polynomial has one value
  pub value_at-same : (f g : List A) (x : A) → IsSamePolynomial ops f g → value_at ops f x ≡ value_at ops g x
  unfolding value_at
  value_at-same [] g x e = sym (value_at-none g x (same_back ops e))
  value_at-same (a ∷ f) [] x e = value_at-none (a ∷ f) x e
  value_at-same (a ∷ f) (b ∷ g) x e =
      ap (λ z. ops.plus z (ops.times x (value_at ops f x))) (e.each zero)
      ∙ ap (λ z. ops.plus b (ops.times x z)) (value_at-same f g x (record { each = λ i. e.each (suc i) }))

  pub value_at-sum : (f g : List A) (x : A) → value_at ops (sum_of ops f g) x ≡ ops.plus (value_at ops f x) (value_at ops g x)
  unfolding value_at sum_of
  value_at-sum [] g x = sym (zero_plus ops ring (value_at ops g x))
  value_at-sum (a ∷ f) [] x = sym (ring.plus_zero (value_at ops (a ∷ f) x))
  value_at-sum (a ∷ f) (b ∷ g) x =
      ap (λ z. ops.plus (ops.plus a b) (ops.times x z)) (value_at-sum f g x)
      ∙ ap (ops.plus (ops.plus a b)) (ring.distributes x (value_at ops f x) (value_at ops g x))
      ∙ plus_swap ops ring a b (ops.times x (value_at ops f x)) (ops.times x (value_at ops g x))

  pub value_at-scalar_multiple : (k : A) (f : List A) (x : A) → value_at ops (scalar_multiple ops k f) x ≡ ops.times k (value_at ops f x)
  unfolding value_at
  value_at-scalar_multiple k [] x = sym (times_zero ops ring k)
  value_at-scalar_multiple k (a ∷ f) x =
      ap (λ z. ops.plus (ops.times k a) (ops.times x z)) (value_at-scalar_multiple k f x)
      ∙ ap (ops.plus (ops.times k a)) (sym (ring.times_assoc x k (value_at ops f x)) ∙ ap (λ z. ops.times z (value_at ops f x)) (ring.times_comm x k) ∙ ring.times_assoc k x (value_at ops f x))
      ∙ sym (ring.distributes k a (ops.times x (value_at ops f x)))

  pub value_at-product : (f g : List A) (x : A) → value_at ops (product_of ops f g) x ≡ ops.times (value_at ops f x) (value_at ops g x)
  unfolding value_at product_of
  value_at-product [] g x = sym (zero_times ops ring (value_at ops g x))
  value_at-product (a ∷ f) g x =
      value_at-sum (scalar_multiple ops a g) (ops.zero ∷ product_of ops f g) x
      ∙ ap (λ z. ops.plus z (value_at ops (ops.zero ∷ product_of ops f g) x)) (value_at-scalar_multiple a g x)
      ∙ ap (ops.plus (ops.times a (value_at ops g x))) (zero_plus ops ring (ops.times x (value_at ops (product_of ops f g) x)) ∙ ap (ops.times x) (value_at-product f g x) ∙ sym (ring.times_assoc x (value_at ops f x) (value_at ops g x)))
      ∙ sym (distributes_left ops ring a (ops.times x (value_at ops f x)) (value_at ops g x))

  -- at a root of f, the remainder by f has the value of the whole
  pub value_at-remainder : (f a r : List A) (x : A) → IsRemainder ops a f r → value_at ops f x ≡ ops.zero → value_at ops a x ≡ value_at ops r x
  value_at-remainder f a r x h root =
      value_at-same a (sum_of ops (product_of ops h.quotient f) r) x h.divides
      ∙ value_at-sum (product_of ops h.quotient f) r x
      ∙ ap (λ z. ops.plus z (value_at ops r x)) (value_at-product h.quotient f x ∙ ap (ops.times (value_at ops h.quotient x)) root ∙ times_zero ops ring (value_at ops h.quotient x))
      ∙ zero_plus ops ring (value_at ops r x)
