-- The terms of a fraction come out one by one: the first is the numerator's first coefficient k, since the denominator
-- begins with 1, and what remains once k times the denominator is taken away and y is divided out is the numerator that
-- belongs to the next odd power.
use Rattle.std.proofs.Common.{◌≡◌, ℕ, zero, suc, ◌+◌, ◌*◌, ◌<◌, ◌≤◌, List, [], ◌∷◌, length, refl, sym, ap, ◌∙◌, arith}
use Rattle.field_rules.specs.Ops.{Ops, IsRing, power}
use Rattle.sketch_rules.specs.PowerSums.{power_sum}
use Rattle.field_laws.proofs.RingFacts.{zero_plus, times_zero, distributes_left, plus_again, plus_swap}
use Rattle.fraction_laws.specs.Fractions.{denominator, numerator}

module _ {A : Type 0} (ops : Ops A) (ring : IsRing ops) where
  -- ---- the first coefficients

  pub denominator-first : (es : List A) → denominator ops es 0 ≡ ops.one
  unfolding denominator
  denominator-first [] = refl
  denominator-first (e ∷ es) = denominator-first es

  -- the first term is the first sum
  pub numerator-first : (i : ℕ) (es : List A) → numerator ops i es 0 ≡ power_sum ops (2 * i + 1) es
  unfolding numerator power_sum
  numerator-first i [] = refl
  numerator-first i (e ∷ es) =
      ap (λ z. ops.plus (numerator ops i es 0) (ops.times (power ops e (2 * i + 1)) z)) (denominator-first es)
      ∙ ap (ops.plus (numerator ops i es 0)) (ring.times_one (power ops e (2 * i + 1)))
      ∙ ring.plus_comm (numerator ops i es 0) (power ops e (2 * i + 1))
      ∙ ap (ops.plus (power ops e (2 * i + 1))) (numerator-first i es)

  -- ---- the coefficients beyond the degrees

  -- a coefficient that is made of none
  of_none : (a b q : A) → a ≡ ops.zero → b ≡ ops.zero → ops.plus a (ops.times q b) ≡ ops.zero
  of_none a b q none too = rw (none, too, times_zero ops ring q) (ring.plus_zero ops.zero)

  pub denominator-beyond : (es : List A) (j : ℕ) → length es < j → denominator ops es j ≡ ops.zero
  unfolding denominator
  denominator-beyond es zero lt = absurd (omega arith)
  denominator-beyond [] (suc j) lt = refl
  denominator-beyond (e ∷ es) (suc j) lt =
      of_none (denominator ops es (suc j)) (denominator ops es j) (ops.times e e) (denominator-beyond es (suc j) (omega arith)) (denominator-beyond es j (omega arith))

  pub numerator-beyond : (i : ℕ) (es : List A) (j : ℕ) → length es ≤ j → numerator ops i es j ≡ ops.zero
  unfolding numerator
  numerator-beyond i [] j le = refl
  numerator-beyond i (e ∷ es) zero le = absurd (omega arith)
  numerator-beyond i (e ∷ es) (suc j) le =
      of_none (ops.plus (numerator ops i es (suc j)) (ops.times (ops.times e e) (numerator ops i es j))) (denominator ops es (suc j)) (power ops e (2 * i + 1))
      (of_none (numerator ops i es (suc j)) (numerator ops i es j) (ops.times e e) (numerator-beyond i es (suc j) (omega arith)) (numerator-beyond i es j (omega arith)))
      (denominator-beyond es (suc j) (omega arith))

  -- ---- the next numerator

  -- six terms, of which one is there twice
  regrouped : (x b r c s t : A) → ops.plus (ops.plus (ops.plus x b) r) (ops.plus (ops.plus c s) (ops.plus r t)) ≡ ops.plus (ops.plus (ops.plus x c) (ops.plus b s)) t
  regrouped x b r c s t =
      ap (ops.plus (ops.plus (ops.plus x b) r)) (ring.plus_comm (ops.plus c s) (ops.plus r t))
      ∙ ring.plus_assoc (ops.plus x b) r (ops.plus (ops.plus r t) (ops.plus c s))
      ∙ ap (λ z. ops.plus (ops.plus x b) (ops.plus r z)) (ring.plus_assoc r t (ops.plus c s))
      ∙ ap (ops.plus (ops.plus x b)) (plus_again ops ring r (ops.plus t (ops.plus c s)) ∙ ring.plus_comm t (ops.plus c s))
      ∙ sym (ring.plus_assoc (ops.plus x b) (ops.plus c s) t)
      ∙ ap (λ z. ops.plus z t) (plus_swap ops ring x b c s)

  -- one element more: a, b are two coefficients of the numerator that follow one another, from the higher on, c, d those
  -- of the denominator, and s is the first term
  one_more : (a b c d s r q : A)
      → ops.plus (ops.plus (ops.plus a (ops.times q b)) (ops.times r c)) (ops.times (ops.plus s r) (ops.plus c (ops.times q d)))
      ≡ ops.plus (ops.plus (ops.plus a (ops.times s c)) (ops.times q (ops.plus b (ops.times s d)))) (ops.times (ops.times r q) d)
  one_more a b c d s r q =
      ap (ops.plus (ops.plus (ops.plus a (ops.times q b)) (ops.times r c))) (distributes_left ops ring s r (ops.plus c (ops.times q d)) ∙ both)
      ∙ regrouped a (ops.times q b) (ops.times r c) (ops.times s c) (ops.times s (ops.times q d)) (ops.times r (ops.times q d))
      ∙ ap (λ z. ops.plus (ops.plus (ops.plus a (ops.times s c)) (ops.plus (ops.times q b) z)) (ops.times r (ops.times q d))) inside
      ∙ ap (λ z. ops.plus (ops.plus (ops.plus a (ops.times s c)) z) (ops.times r (ops.times q d))) (sym (ring.distributes q b (ops.times s d)))
      ∙ ap (ops.plus (ops.plus (ops.plus a (ops.times s c)) (ops.times q (ops.plus b (ops.times s d))))) (sym (ring.times_assoc r q d))
    where
      both : ops.plus (ops.times s (ops.plus c (ops.times q d))) (ops.times r (ops.plus c (ops.times q d)))
          ≡ ops.plus (ops.plus (ops.times s c) (ops.times s (ops.times q d))) (ops.plus (ops.times r c) (ops.times r (ops.times q d)))
      both = rw (ring.distributes s c (ops.times q d), ring.distributes r c (ops.times q d)) refl

      inside : ops.times s (ops.times q d) ≡ ops.times q (ops.times s d)
      inside = sym (ring.times_assoc s q d) ∙ ap (λ z. ops.times z d) (ring.times_comm s q) ∙ ring.times_assoc q s d

  -- the next odd power
  next_power : (e : A) (i : ℕ) → power ops e (2 * (i + 1) + 1) ≡ ops.times (power ops e (2 * i + 1)) (ops.times e e)
  unfolding power
  next_power e i = let index : 2 * (i + 1) + 1 ≡ suc (suc (2 * i + 1)) = omega arith in
      rw index (ring.times_assoc (power ops e (2 * i + 1)) e e)

  -- the first term of the elements, where e is one more
  more_first : (i : ℕ) (e : A) (es : List A) → numerator ops i (e ∷ es) 0 ≡ ops.plus (numerator ops i es 0) (power ops e (2 * i + 1))
  unfolding numerator
  more_first i e es =
      ap (λ z. ops.plus (numerator ops i es 0) (ops.times (power ops e (2 * i + 1)) z)) (denominator-first es)
      ∙ ap (ops.plus (numerator ops i es 0)) (ring.times_one (power ops e (2 * i + 1)))

  -- each coefficient of the next numerator
  pub numerator-next : (i : ℕ) (es : List A) (j : ℕ)
      → numerator ops (i + 1) es j ≡ ops.plus (numerator ops i es (suc j)) (ops.times (numerator ops i es 0) (denominator ops es (suc j)))
  unfolding numerator denominator
  numerator-next i [] j = sym (zero_plus ops ring (ops.times ops.zero ops.zero) ∙ times_zero ops ring ops.zero)
  numerator-next i (e ∷ es) zero =
      ap (λ z. ops.plus z (ops.times (power ops e (2 * (i + 1) + 1)) (denominator ops es 0))) (numerator-next i es 0)
      ∙ ap (λ z. ops.plus here (ops.times z (denominator ops es 0))) (next_power e i)
      ∙ sym
      (ap (λ z. ops.plus (numerator ops i (e ∷ es) 1) (ops.times z (denominator ops (e ∷ es) 1))) (more_first i e es)
      ∙ one_more (numerator ops i es 1) (numerator ops i es 0) (denominator ops es 1) (denominator ops es 0) (numerator ops i es 0) (power ops e (2 * i + 1)) (ops.times e e)
      ∙ ap (λ z. ops.plus (ops.plus here (ops.times (ops.times e e) z)) last) twice
      ∙ ap (λ z. ops.plus (ops.plus here z) last) (times_zero ops ring (ops.times e e))
      ∙ ap (λ z. ops.plus z last) (ring.plus_zero here))
    where
      here : A
      here = ops.plus (numerator ops i es 1) (ops.times (numerator ops i es 0) (denominator ops es 1))

      last : A
      last = ops.times (ops.times (power ops e (2 * i + 1)) (ops.times e e)) (denominator ops es 0)

      twice : ops.plus (numerator ops i es 0) (ops.times (numerator ops i es 0) (denominator ops es 0)) ≡ ops.zero
      twice =
          ap (λ z. ops.plus (numerator ops i es 0) (ops.times (numerator ops i es 0) z)) (denominator-first es)
          ∙ ap (ops.plus (numerator ops i es 0)) (ring.times_one (numerator ops i es 0))
          ∙ ring.plus_self (numerator ops i es 0)
  numerator-next i (e ∷ es) (suc j) =
      ap (λ z. ops.plus (ops.plus z (ops.times (ops.times e e) (numerator ops (i + 1) es j))) (ops.times (power ops e (2 * (i + 1) + 1)) (denominator ops es (suc j)))) (numerator-next i es (suc j))
      ∙ ap (λ z. ops.plus (ops.plus after (ops.times (ops.times e e) z)) (ops.times (power ops e (2 * (i + 1) + 1)) (denominator ops es (suc j)))) (numerator-next i es j)
      ∙ ap (λ z. ops.plus (ops.plus after (ops.times (ops.times e e) before)) (ops.times z (denominator ops es (suc j)))) (next_power e i)
      ∙ sym
      (ap (λ z. ops.plus (numerator ops i (e ∷ es) (suc (suc j))) (ops.times z (denominator ops (e ∷ es) (suc (suc j))))) (more_first i e es)
      ∙ one_more (numerator ops i es (suc (suc j))) (numerator ops i es (suc j)) (denominator ops es (suc (suc j))) (denominator ops es (suc j)) (numerator ops i es 0) (power ops e (2 * i + 1)) (ops.times e e))
    where
      after : A
      after = ops.plus (numerator ops i es (suc (suc j))) (ops.times (numerator ops i es 0) (denominator ops es (suc (suc j))))

      before : A
      before = ops.plus (numerator ops i es (suc j)) (ops.times (numerator ops i es 0) (denominator ops es (suc j)))
