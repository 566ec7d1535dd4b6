-- Sums of polynomials and multiples by an element.
use Rattle.std.proofs.Common.{◌≡◌, ℕ, zero, suc, List, [], ◌∷◌, refl, sym, ap, ◌∙◌}
use Rattle.field_rules.specs.Ops.{Ops, IsRing}
use Rattle.poly_rules.specs.Polynomials.{coefficient, IsSamePolynomial, sum_of, scalar_multiple}
use Rattle.field_laws.proofs.RingFacts.{zero_plus, times_zero, zero_times, one_times, distributes_left, plus_swap, same_of_sum}
use Rattle.poly_laws.proofs.Elements.{plus_turn, plus_across}

module _ {A : Type 0} (ops : Ops A) where
  -- ---- one polynomial

  pub same_self : (f : List A) → IsSamePolynomial ops f f
  same_self f = record { each = λ i. refl }

  pub same_back : {f g : List A} → IsSamePolynomial ops f g → IsSamePolynomial ops g f
  same_back h = record { each = λ i. sym (h.each i) }

  pub same_along : {f g h : List A} → IsSamePolynomial ops f g → IsSamePolynomial ops g h → IsSamePolynomial ops f h
  same_along h k = record { each = λ i. h.each i ∙ k.each i }

  pub same_of : {f g : List A} → f ≡ g → IsSamePolynomial ops f g
  same_of e = record { each = λ i. ap (λ z. coefficient ops z i) e }

  pub same_cons : {f g : List A} (a b : A) → a ≡ b → IsSamePolynomial ops f g → IsSamePolynomial ops (a ∷ f) (b ∷ g)
  same_cons {f} {g} a b e h = record { each = at }
    where
      at : (i : ℕ) → coefficient ops (a ∷ f) i ≡ coefficient ops (b ∷ g) i
      at zero = e
      at (suc i) = h.each i

  -- x times nothing is nothing
  pub same_none : {f : List A} (a : A) → a ≡ ops.zero → IsSamePolynomial ops f [] → IsSamePolynomial ops (a ∷ f) []
  same_none {f} a e h = record { each = at }
    where
      at : (i : ℕ) → coefficient ops (a ∷ f) i ≡ ops.zero
      at zero = e
      at (suc i) = h.each i

  -- the parts of a list that is nothing
  pub same_tail : {f : List A} {a : A} → IsSamePolynomial ops (a ∷ f) [] → IsSamePolynomial ops f []
  same_tail h = record { each = λ i. h.each (suc i) }

module _ {A : Type 0} (ops : Ops A) (ring : IsRing ops) where
  -- ---- coefficients

  pub coefficient-sum : (f g : List A) (i : ℕ) → coefficient ops (sum_of ops f g) i ≡ ops.plus (coefficient ops f i) (coefficient ops g i)
  unfolding sum_of
  coefficient-sum [] g i = sym (zero_plus ops ring (coefficient ops g i))
  coefficient-sum (a ∷ f) [] i = sym (ring.plus_zero (coefficient ops (a ∷ f) i))
  coefficient-sum (a ∷ f) (b ∷ g) zero = refl
  coefficient-sum (a ∷ f) (b ∷ g) (suc i) = coefficient-sum f g i

  pub coefficient-scalar_multiple : (k : A) (f : List A) (i : ℕ) → coefficient ops (scalar_multiple ops k f) i ≡ ops.times k (coefficient ops f i)
  coefficient-scalar_multiple k [] i = sym (times_zero ops ring k)
  coefficient-scalar_multiple k (a ∷ f) zero = refl
  coefficient-scalar_multiple k (a ∷ f) (suc i) = coefficient-scalar_multiple k f i

  -- ---- sums

  pub sum_none : (f : List A) → sum_of ops f [] ≡ f
  unfolding sum_of
  sum_none [] = refl
  sum_none (a ∷ f) = refl

  pub sum_same : {f f' g g' : List A} → IsSamePolynomial ops f f' → IsSamePolynomial ops g g' → IsSamePolynomial ops (sum_of ops f g) (sum_of ops f' g')
  sum_same {f} {f'} {g} {g'} h k = record {
    each = λ i.
        coefficient-sum f g i
        ∙ ap (λ z. ops.plus z (coefficient ops g i)) (h.each i)
        ∙ ap (ops.plus (coefficient ops f' i)) (k.each i)
        ∙ sym (coefficient-sum f' g' i);
  }

  pub sum_comm : (f g : List A) → IsSamePolynomial ops (sum_of ops f g) (sum_of ops g f)
  sum_comm f g = record {
    each = λ i.
        coefficient-sum f g i
        ∙ ring.plus_comm (coefficient ops f i) (coefficient ops g i)
        ∙ sym (coefficient-sum g f i);
  }

  pub sum_self : (f : List A) → IsSamePolynomial ops (sum_of ops f f) []
  sum_self f = record { each = λ i. coefficient-sum f f i ∙ ring.plus_self (coefficient ops f i) }

  -- both sides of a law of three or four terms, read at an index
  at_three : (f g h : List A) (i : ℕ) → coefficient ops (sum_of ops f (sum_of ops g h)) i ≡ ops.plus (coefficient ops f i) (ops.plus (coefficient ops g i) (coefficient ops h i))
  at_three f g h i = coefficient-sum f (sum_of ops g h) i ∙ ap (ops.plus (coefficient ops f i)) (coefficient-sum g h i)

  at_four : (a b c d : List A) (i : ℕ) → coefficient ops (sum_of ops (sum_of ops a b) (sum_of ops c d)) i ≡ ops.plus (ops.plus (coefficient ops a i) (coefficient ops b i)) (ops.plus (coefficient ops c i) (coefficient ops d i))
  at_four a b c d i = at_three (sum_of ops a b) c d i ∙ ap (λ z. ops.plus z (ops.plus (coefficient ops c i) (coefficient ops d i))) (coefficient-sum a b i)

  pub sum_assoc : (f g h : List A) → IsSamePolynomial ops (sum_of ops (sum_of ops f g) h) (sum_of ops f (sum_of ops g h))
  sum_assoc f g h = record {
    each = λ i.
        coefficient-sum (sum_of ops f g) h i
        ∙ ap (λ z. ops.plus z (coefficient ops h i)) (coefficient-sum f g i)
        ∙ ring.plus_assoc (coefficient ops f i) (coefficient ops g i) (coefficient ops h i)
        ∙ sym (at_three f g h i);
  }

  pub sum_turn : (f g h : List A) → IsSamePolynomial ops (sum_of ops f (sum_of ops g h)) (sum_of ops g (sum_of ops f h))
  sum_turn f g h = record {
    each = λ i.
        at_three f g h i
        ∙ plus_turn ops ring (coefficient ops f i) (coefficient ops g i) (coefficient ops h i)
        ∙ sym (at_three g f h i);
  }

  pub sum_swap : (a b c d : List A) → IsSamePolynomial ops (sum_of ops (sum_of ops a b) (sum_of ops c d)) (sum_of ops (sum_of ops a c) (sum_of ops b d))
  sum_swap a b c d = record {
    each = λ i.
        at_four a b c d i
        ∙ plus_swap ops ring (coefficient ops a i) (coefficient ops b i) (coefficient ops c i) (coefficient ops d i)
        ∙ sym (at_four a c b d i);
  }

  -- of two sums that are one, the first terms and the last terms have one sum
  pub sum_across : (a b c d : List A) → IsSamePolynomial ops (sum_of ops a b) (sum_of ops c d) → IsSamePolynomial ops (sum_of ops a c) (sum_of ops b d)
  sum_across a b c d h = record {
    each = λ i.
        coefficient-sum a c i
        ∙ plus_across ops ring (coefficient ops a i) (coefficient ops b i) (coefficient ops c i) (coefficient ops d i)
        (sym (coefficient-sum a b i) ∙ h.each i ∙ coefficient-sum c d i)
        ∙ sym (coefficient-sum b d i);
  }

  -- polynomials with the sum nothing are one
  pub sum_none_same : (f g : List A) → IsSamePolynomial ops (sum_of ops f g) [] → IsSamePolynomial ops f g
  sum_none_same f g h = record {
    each = λ i. same_of_sum ops ring (coefficient ops f i) (coefficient ops g i) (sym (coefficient-sum f g i) ∙ h.each i);
  }

  -- x times a sum
  pub shift_sum : (f g : List A) → IsSamePolynomial ops (ops.zero ∷ sum_of ops f g) (sum_of ops (ops.zero ∷ f) (ops.zero ∷ g))
  unfolding sum_of
  shift_sum f g = same_cons ops ops.zero (ops.plus ops.zero ops.zero) (sym (ring.plus_zero ops.zero)) (same_self ops (sum_of ops f g))

  -- ---- multiples by an element

  pub scaled_same : {f g : List A} (k : A) → IsSamePolynomial ops f g → IsSamePolynomial ops (scalar_multiple ops k f) (scalar_multiple ops k g)
  scaled_same {f} {g} k h = record {
    each = λ i. coefficient-scalar_multiple k f i ∙ ap (ops.times k) (h.each i) ∙ sym (coefficient-scalar_multiple k g i);
  }

  pub scaled_sum : (k : A) (f g : List A) → IsSamePolynomial ops (scalar_multiple ops k (sum_of ops f g)) (sum_of ops (scalar_multiple ops k f) (scalar_multiple ops k g))
  scaled_sum k f g = record {
    each = λ i.
        coefficient-scalar_multiple k (sum_of ops f g) i
        ∙ ap (ops.times k) (coefficient-sum f g i)
        ∙ ring.distributes k (coefficient ops f i) (coefficient ops g i)
        ∙ ap (λ z. ops.plus z (ops.times k (coefficient ops g i))) (sym (coefficient-scalar_multiple k f i))
        ∙ ap (ops.plus (coefficient ops (scalar_multiple ops k f) i)) (sym (coefficient-scalar_multiple k g i))
        ∙ sym (coefficient-sum (scalar_multiple ops k f) (scalar_multiple ops k g) i);
  }

  pub scaled_plus : (a b : A) (f : List A) → IsSamePolynomial ops (scalar_multiple ops (ops.plus a b) f) (sum_of ops (scalar_multiple ops a f) (scalar_multiple ops b f))
  scaled_plus a b f = record {
    each = λ i.
        coefficient-scalar_multiple (ops.plus a b) f i
        ∙ distributes_left ops ring a b (coefficient ops f i)
        ∙ ap (λ z. ops.plus z (ops.times b (coefficient ops f i))) (sym (coefficient-scalar_multiple a f i))
        ∙ ap (ops.plus (coefficient ops (scalar_multiple ops a f) i)) (sym (coefficient-scalar_multiple b f i))
        ∙ sym (coefficient-sum (scalar_multiple ops a f) (scalar_multiple ops b f) i);
  }

  pub scaled_scaled : (a b : A) (f : List A) → IsSamePolynomial ops (scalar_multiple ops (ops.times a b) f) (scalar_multiple ops a (scalar_multiple ops b f))
  scaled_scaled a b f = record {
    each = λ i.
        coefficient-scalar_multiple (ops.times a b) f i
        ∙ ring.times_assoc a b (coefficient ops f i)
        ∙ ap (ops.times a) (sym (coefficient-scalar_multiple b f i))
        ∙ sym (coefficient-scalar_multiple a (scalar_multiple ops b f) i);
  }

  pub scaled_zero : (f : List A) → IsSamePolynomial ops (scalar_multiple ops ops.zero f) []
  scaled_zero f = record { each = λ i. coefficient-scalar_multiple ops.zero f i ∙ zero_times ops ring (coefficient ops f i) }

  pub scaled_one : (f : List A) → IsSamePolynomial ops (scalar_multiple ops ops.one f) f
  scaled_one f = record { each = λ i. coefficient-scalar_multiple ops.one f i ∙ one_times ops ring (coefficient ops f i) }

  -- a multiple of x times a polynomial
  pub scaled_shift : (k : A) (f : List A) → IsSamePolynomial ops (scalar_multiple ops k (ops.zero ∷ f)) (ops.zero ∷ scalar_multiple ops k f)
  scaled_shift k f = same_cons ops (ops.times k ops.zero) ops.zero (times_zero ops ring k) (same_self ops (scalar_multiple ops k f))
