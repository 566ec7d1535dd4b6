-- The recurrences of the power sums of a set: the product of the factors x + e gives one, and a monic polynomial that
-- gives a recurrence of enough sums vanishes on the set.
use Rattle.std.proofs.Common.{◌≡◌, ◌≢◌, ◌⊎◌, inl, inr, ℕ, ◌+◌, ◌*◌, ◌<◌, ◌≤◌, List, [], ◌∷◌, ◌++◌, length, get_or, take, drop, reverse, refl, sym, ap, subst, ◌∙◌, arith}
use Rattle.std.specs.List.{All}
use Rattle.std.proofs.lemmas.List.{length-reverse, length-take-le, reverse-reverse, ext_get_or}
use Rattle.std.proofs.lemmas.Grind.{reverse_onto}
use Rattle.field_rules.specs.Ops.{Ops, IsRing}
use Rattle.field_rules.specs.Fields.{IsField, dot_of}
use Rattle.field_rules.specs.Lists.{AreDistinct}
use Rattle.sketch_rules.specs.PowerSums.{power_sums}
use Rattle.poly_rules.specs.Polynomials.{IsSamePolynomial, IsMonic, value_at}
use Rattle.poly_rules.specs.Roots.{IsRoot, with_roots}
use Rattle.poly_rules.specs.Recurrences.{IsRecurrence, IsShortest}
use Rattle.field_laws.proofs.RingFacts.{times_zero}
use Rattle.field_laws.proofs.Weights.{weighted-zero, lone_weight}
use Rattle.sketch_laws.proofs.EverySums.{length-power_sums}
use Rattle.poly_laws.proofs.Remainders.{monic-split}
use Rattle.poly_laws.proofs.Roots.{with_roots-monic, with_roots-root, roots_within, factors_of_roots}
use Rattle.recurrence_laws.proofs.Monic.{monic_form, monic_from_recurs, recurs_from_monic}
use Rattle.splitting_laws.proofs.Windows.{dot_of-window}

module _ {A : Type 0} (ops : Ops A) where
  -- monic polynomials of one degree that are the same are one list
  pub monic_same : (n : ℕ) (f g : List A) → IsMonic ops n f → IsMonic ops n g → IsSamePolynomial ops f g → f ≡ g
  monic_same n f g monic_f monic_g same = ext_get_or ops.zero f g (monic_f.size ∙ sym monic_g.size) (λ i lt. same.each i)

  -- the recurrence whose polynomial is the product of the factors x + e
  unfoldable pub recurrence_of : List A → List A
  recurrence_of es = reverse (take (length es) (with_roots ops es))

module _ {A : Type 0} (ops : Ops A) (ring : IsRing ops) where
  -- ---- the sums of a set

  -- a polynomial that vanishes on the set has no dot with the sums
  pub window_of_roots : (f es : List A) (k n : ℕ) → All (IsRoot ops f) es → k + length f ≤ n → dot_of ops f (drop k (power_sums ops es 1 n)) ≡ ops.zero
  window_of_roots f es k n roots le =
      dot_of-window ops ring f es k n le
      ∙ weighted-zero ops ring (λ e. ops.times e (value_at ops f e)) k es (λ i d lt. ap (ops.times (get_or es i d)) (roots i d lt) ∙ times_zero ops ring (get_or es i d))

  -- the recurrence that the set gives: it is as long as the set is large
  pub recurrence_of-length : (es : List A) → length (recurrence_of ops es) ≡ length es
  unfolding recurrence_of
  recurrence_of-length es =
      length-reverse (take (length es) (with_roots ops es))
      ∙ length-take-le (length es) (with_roots ops es) (omega (arith, (with_roots-monic ops ring es).size))

  -- its polynomial is the product of the factors
  pub recurrence_of-polynomial : (es : List A) → reverse (ops.one ∷ recurrence_of ops es) ≡ with_roots ops es
  unfolding recurrence_of
  recurrence_of-polynomial es =
      reverse_onto (recurrence_of ops es) ops.one []
      ∙ ap (λ z. z ++ ops.one ∷ []) (reverse-reverse (take (length es) (with_roots ops es)))
      ∙ sym (monic-split ops (length es) (with_roots ops es) (with_roots-monic ops ring es))

  -- and it holds of all sums
  pub recurrence_of-holds : (es : List A) (n : ℕ) → IsRecurrence ops (recurrence_of ops es) (power_sums ops es 1 n)
  recurrence_of-holds es n =
      recurs_from_monic ops ring (recurrence_of ops es) (power_sums ops es 1 n)
      (λ k lt.
      ap (λ z. dot_of ops z (drop k (power_sums ops es 1 n))) (recurrence_of-polynomial es)
      ∙ window_of_roots (with_roots ops es) es k n (with_roots-root ops ring es)
      (omega (arith, recurrence_of-length es, length-power_sums ops es 1 n, (with_roots-monic ops ring es).size)))

  -- a shortest recurrence is no longer than the set is large
  pub shortest_within : (cs es : List A) (n : ℕ) → IsShortest ops cs (power_sums ops es 1 n) → length cs ≤ length es
  shortest_within cs es n shortest = subst (λ z. length cs ≤ z) (recurrence_of-length es) (shortest.least (recurrence_of ops es) (recurrence_of-holds es n))

  module _ (bits : ℕ) (field : IsField ops bits) where
    -- a factor that isn't zero
    zero_behind : (a b : A) → a ≢ ops.zero → ops.times a b ≡ ops.zero → b ≡ ops.zero
    zero_behind a b some e = by_factor (field.no_zero_divisor a b e)
      where
        by_factor : (a ≡ ops.zero) ⊎ (b ≡ ops.zero) → b ≡ ops.zero
        by_factor (inl none) = absurd (some none)
        by_factor (inr none) = none

    -- a polynomial that has no dot with as many windows as the set has elements vanishes on the set
    pub roots_of_windows : (g es : List A) (n : ℕ) → AreDistinct es → All (λ e. e ≢ ops.zero) es → length g + length es ≤ n + 1
        → ((k : ℕ) → k < length es → dot_of ops g (drop k (power_sums ops es 1 n)) ≡ ops.zero) → All (IsRoot ops g) es
    roots_of_windows g es n differ nonzero long none =
        λ i d lt. zero_behind (get_or es i d) (value_at ops g (get_or es i d)) (nonzero i d lt)
        (lone_weight ops ring field.no_zero_divisor (λ e. ops.times e (value_at ops g e)) es differ
        (λ k within. sym (dot_of-window ops ring g es k n (omega arith)) ∙ none k within) i d lt)

    -- the polynomial of a recurrence of enough sums vanishes on the set
    pub roots_of_recurs : (cs es : List A) (n : ℕ) → AreDistinct es → All (λ e. e ≢ ops.zero) es → length cs + length es ≤ n
        → IsRecurrence ops cs (power_sums ops es 1 n) → All (IsRoot ops (reverse (ops.one ∷ cs))) es
    roots_of_recurs cs es n differ nonzero long holds =
        roots_of_windows (reverse (ops.one ∷ cs)) es n differ nonzero (omega (arith, (monic_form ops ring cs).size))
        (λ k lt. monic_from_recurs ops ring cs (power_sums ops es 1 n) holds k (omega (arith, length-power_sums ops es 1 n)))

    -- so it is no shorter than the set is large
    pub recurs_within : (cs es : List A) (n : ℕ) → AreDistinct es → All (λ e. e ≢ ops.zero) es → length cs + length es ≤ n
        → IsRecurrence ops cs (power_sums ops es 1 n) → length es ≤ length cs
    recurs_within cs es n differ nonzero long holds =
        roots_within ops ring field.apart field.no_zero_divisor (length cs) (reverse (ops.one ∷ cs)) es (monic_form ops ring cs)
        (roots_of_recurs cs es n differ nonzero long holds) differ

    -- and where it is as short as the set, its polynomial is the product of the factors
    pub recurs_only : (cs es : List A) (n : ℕ) → AreDistinct es → All (λ e. e ≢ ops.zero) es → length cs + length es ≤ n
        → IsRecurrence ops cs (power_sums ops es 1 n) → length cs ≡ length es → reverse (ops.one ∷ cs) ≡ with_roots ops es
    recurs_only cs es n differ nonzero long holds even =
        monic_same ops (length es) (reverse (ops.one ∷ cs)) (with_roots ops es) monic (with_roots-monic ops ring es)
        (factors_of_roots ops ring field.apart field.no_zero_divisor (length es) (reverse (ops.one ∷ cs)) es monic refl
        (roots_of_recurs cs es n differ nonzero long holds) differ)
      where
        monic : IsMonic ops (length es) (reverse (ops.one ∷ cs))
        monic = subst (λ z. IsMonic ops z (reverse (ops.one ∷ cs))) even (monic_form ops ring cs)

    -- the shortest recurrence of the sums is that of the set, where it and the set aren't too large for the sums
    shortest_only : (cs es : List A) (n : ℕ) → AreDistinct es → All (λ e. e ≢ ops.zero) es → length cs + length es ≤ n
        → IsShortest ops cs (power_sums ops es 1 n) → (length cs ≡ length es) × (reverse (ops.one ∷ cs) ≡ with_roots ops es)
    shortest_only cs es n differ nonzero long shortest = (even, recurs_only cs es n differ nonzero long shortest.holds even)
      where
        even : length cs ≡ length es
        even = omega (arith, shortest_within cs es n shortest, recurs_within cs es n differ nonzero long shortest.holds)

    -- the shortest recurrence of twice as many sums as the set has elements
    pub shortest_of_set : (cs es : List A) (n : ℕ) → AreDistinct es → All (λ e. e ≢ ops.zero) es → 2 * length es ≤ n
        → IsShortest ops cs (power_sums ops es 1 n) → (length cs ≡ length es) × (reverse (ops.one ∷ cs) ≡ with_roots ops es)
    shortest_of_set cs es n differ nonzero long shortest =
        shortest_only cs es n differ nonzero (omega (arith, shortest_within cs es n shortest)) shortest
