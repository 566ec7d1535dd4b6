-- The recurrences of a sequence whose weights are nowhere zero: the shortest one has the set for its roots.
use Rattle.std.proofs.Common.{◌≡◌, ◌≢◌, ◌⊎◌, inl, inr, ℕ, ◌+◌, ◌*◌, ◌<◌, ◌≤◌, List, ◌∷◌, length, get_or, drop, reverse, refl, sym, ap, subst, ◌∙◌, arith}
use Rattle.std.specs.List.{All}
use Rattle.field_rules.specs.Lists.{AreDistinct}
use Rattle.field_rules.specs.Ops.{Ops, IsRing}
use Rattle.field_rules.specs.Fields.{IsField, dot_of}
use Rattle.poly_rules.specs.Polynomials.{IsMonic, value_at}
use Rattle.poly_rules.specs.Roots.{IsRoot, with_roots}
use Rattle.poly_rules.specs.Recurrences.{IsRecurrence, IsShortest}
use Rattle.field_laws.proofs.RingFacts.{times_zero}
use Rattle.sequence_laws.proofs.Weighing.{weighted-zero, lone_weight}
use Rattle.poly_laws.proofs.Roots.{with_roots-monic, with_roots-root, roots_within, factors_of_roots}
use Rattle.recurrence_laws.proofs.Monic.{monic_form, monic_from_recurs, recurs_from_monic}
use Rattle.splitting_laws.proofs.Recurrences.{monic_same, recurrence_of, recurrence_of-length, recurrence_of-polynomial}
use Rattle.sequence_laws.specs.Sequences.{sequence_of}
use Rattle.sequence_laws.proofs.Sequences.{length-sequence_of, dot_of-from}

module _ {A : Type 0} (ops : Ops A) (ring : IsRing ops) where
  -- a polynomial that vanishes on the set has no dot with the sequence
  pub window_of_roots : (f es : List A) (w : A → A) (k n : ℕ) → All (IsRoot ops f) es → k + length f ≤ n → dot_of ops f (drop k (sequence_of ops w es 0 n)) ≡ ops.zero
  window_of_roots f es w k n roots le =
      dot_of-from ops ring f es w k n le
      ∙ weighted-zero ops ring (λ e. ops.times (w e) (value_at ops f e)) k es (λ i d lt. ap (ops.times (w (get_or es i d))) (roots i d lt) ∙ times_zero ops ring (w (get_or es i d)))

  -- so the recurrence of the set holds of it
  pub recurrence_of-recurs : (es : List A) (w : A → A) (n : ℕ) → IsRecurrence ops (recurrence_of ops es) (sequence_of ops w es 0 n)
  recurrence_of-recurs es w n =
      recurs_from_monic ops ring (recurrence_of ops es) (sequence_of ops w es 0 n)
      (λ k lt.
      ap (λ z. dot_of ops z (drop k (sequence_of ops w es 0 n))) (recurrence_of-polynomial ops ring es)
      ∙ window_of_roots (with_roots ops es) es w k n (with_roots-root ops ring es)
      (omega (arith, recurrence_of-length ops ring es, length-sequence_of ops ring w es 0 n, (with_roots-monic ops ring es).size)))

  pub shortest_within : (cs es : List A) (w : A → A) (n : ℕ) → IsShortest ops cs (sequence_of ops w es 0 n) → length cs ≤ length es
  shortest_within cs es w n shortest =
      subst (λ z. length cs ≤ z) (recurrence_of-length ops ring es) (shortest.least (recurrence_of ops es) (recurrence_of-recurs es w n))

  -- a dot with the first items is one with more of them
  pub dot_of-longer : (f es : List A) (w : A → A) (k m n : ℕ) → k + length f ≤ m → m ≤ n → dot_of ops f (drop k (sequence_of ops w es 0 m)) ≡ dot_of ops f (drop k (sequence_of ops w es 0 n))
  dot_of-longer f es w k m n le more = dot_of-from ops ring f es w k m le ∙ sym (dot_of-from ops ring f es w k n (omega arith))

  -- a recurrence of more items holds of fewer
  recurs_of_fewer : (ds es : List A) (w : A → A) (m n : ℕ) → m ≤ n → IsRecurrence ops ds (sequence_of ops w es 0 n) → IsRecurrence ops ds (sequence_of ops w es 0 m)
  recurs_of_fewer ds es w m n le recurs =
      recurs_from_monic ops ring ds (sequence_of ops w es 0 m)
      (λ k lt.
      dot_of-longer (reverse (ops.one ∷ ds)) es w k m n (omega (arith, (monic_form ops ring ds).size, length-sequence_of ops ring w es 0 m)) le
      ∙ monic_from_recurs ops ring ds (sequence_of ops w es 0 n) recurs k (omega (arith, length-sequence_of ops ring w es 0 m, length-sequence_of ops ring w es 0 n)))

  -- a shortest recurrence that holds of one item more is a shortest one of these
  pub shortest_kept : (cs es : List A) (w : A → A) (m k : ℕ) → IsShortest ops cs (sequence_of ops w es 0 m) → k + length cs ≡ m
      → dot_of ops (reverse (ops.one ∷ cs)) (drop k (sequence_of ops w es 0 (m + 1))) ≡ ops.zero → IsShortest ops cs (sequence_of ops w es 0 (m + 1))
  shortest_kept cs es w m k shortest place none = record {
    holds = recurs_from_monic ops ring cs (sequence_of ops w es 0 (m + 1)) (λ j lt. at j (meets (j + length cs) m (omega (arith, length-sequence_of ops ring w es 0 (m + 1)))));
    least = λ ds recurs. shortest.least ds (recurs_of_fewer ds es w m (m + 1) (omega arith) recurs);
  }
    where
      meets : (i j : ℕ) → i < j + 1 → (i < j) ⊎ (i ≡ j)
      meets i j lt = grind arith

      at : (j : ℕ) → (j + length cs < m) ⊎ (j + length cs ≡ m) → dot_of ops (reverse (ops.one ∷ cs)) (drop j (sequence_of ops w es 0 (m + 1))) ≡ ops.zero
      at j (inl lt) =
          sym (dot_of-longer (reverse (ops.one ∷ cs)) es w j m (m + 1) (omega (arith, (monic_form ops ring cs).size)) (omega arith))
          ∙ monic_from_recurs ops ring cs (sequence_of ops w es 0 m) shortest.holds j (omega (arith, length-sequence_of ops ring w es 0 m))
      at j (inr e) = let same : j ≡ k = omega arith in ap (λ z. dot_of ops (reverse (ops.one ∷ cs)) (drop z (sequence_of ops w es 0 (m + 1)))) same ∙ none

  module _ (bits : ℕ) (field : IsField ops bits) where
    -- a factor that isn't zero
    pub zero_behind : (a b : A) → a ≢ ops.zero → ops.times a b ≡ ops.zero → b ≡ ops.zero
    zero_behind a b some e = by_factor (field.no_zero_divisor a b e)
      where
        by_factor : (a ≡ ops.zero) ⊎ (b ≡ ops.zero) → b ≡ ops.zero
        by_factor (inl none) = absurd (some none)
        by_factor (inr none) = none

    module _ (w : A → A) (es : List A) (differ : AreDistinct es) (nonzero : All (λ e. w e ≢ ops.zero) es) where
      -- a polynomial that has no dot with as many windows as the set has elements vanishes on the set
      pub roots_of_windows : (g : List A) (n : ℕ) → length g + length es ≤ n + 1
          → ((k : ℕ) → k < length es → dot_of ops g (drop k (sequence_of ops w es 0 n)) ≡ ops.zero) → All (IsRoot ops g) es
      roots_of_windows g n long none =
          λ i d lt. zero_behind (w (get_or es i d)) (value_at ops g (get_or es i d)) (nonzero i d lt)
          (lone_weight ops ring field.no_zero_divisor (λ e. ops.times (w e) (value_at ops g e)) es differ
          (λ k within. sym (dot_of-from ops ring g es w k n (omega arith)) ∙ none k within) i d lt)

      roots_of_recurs : (cs : List A) (n : ℕ) → length cs + length es ≤ n → IsRecurrence ops cs (sequence_of ops w es 0 n) → All (IsRoot ops (reverse (ops.one ∷ cs))) es
      roots_of_recurs cs n long holds =
          roots_of_windows (reverse (ops.one ∷ cs)) n (omega (arith, (monic_form ops ring cs).size))
          (λ k lt. monic_from_recurs ops ring cs (sequence_of ops w es 0 n) holds k (omega (arith, length-sequence_of ops ring w es 0 n)))

      recurs_within : (cs : List A) (n : ℕ) → length cs + length es ≤ n → IsRecurrence ops cs (sequence_of ops w es 0 n) → length es ≤ length cs
      recurs_within cs n long holds =
          roots_within ops ring field.apart field.no_zero_divisor (length cs) (reverse (ops.one ∷ cs)) es (monic_form ops ring cs) (roots_of_recurs cs n long holds) differ

      recurs_only : (cs : List A) (n : ℕ) → length cs + length es ≤ n → IsRecurrence ops cs (sequence_of ops w es 0 n) → length cs ≡ length es → reverse (ops.one ∷ cs) ≡ with_roots ops es
      recurs_only cs n long holds even =
          monic_same ops (length es) (reverse (ops.one ∷ cs)) (with_roots ops es) monic (with_roots-monic ops ring es)
          (factors_of_roots ops ring field.apart field.no_zero_divisor (length es) (reverse (ops.one ∷ cs)) es monic refl (roots_of_recurs cs n long holds) differ)
        where
          monic : IsMonic ops (length es) (reverse (ops.one ∷ cs))
          monic = subst (λ z. IsMonic ops z (reverse (ops.one ∷ cs))) even (monic_form ops ring cs)

      -- the shortest recurrence, where it and the set aren't too large for the items
      pub shortest_only : (cs : List A) (n : ℕ) → length cs + length es ≤ n → IsShortest ops cs (sequence_of ops w es 0 n)
          → (length cs ≡ length es) × (reverse (ops.one ∷ cs) ≡ with_roots ops es)
      shortest_only cs n long shortest = (even, recurs_only cs n long shortest.holds even)
        where
          even : length cs ≡ length es
          even = omega (arith, shortest_within cs es w n shortest, recurs_within cs n long shortest.holds)

      -- of twice as many items as the set has elements
      pub shortest_of_sequence : (cs : List A) (n : ℕ) → 2 * length es ≤ n → IsShortest ops cs (sequence_of ops w es 0 n)
          → (length cs ≡ length es) × (reverse (ops.one ∷ cs) ≡ with_roots ops es)
      shortest_of_sequence cs n long shortest = shortest_only cs n (omega (arith, shortest_within cs es w n shortest)) shortest
