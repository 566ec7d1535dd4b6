-- The rows of x, x ^ 2, x ^ 4, .. of a set: the first are read off the sums of its unit, each further one is made of the
-- one before.
use Rattle.std.proofs.Common.{◌≡◌, ℕ, zero, suc, ◌+◌, ◌-◌, ◌^◌, ◌<◌, ◌≤◌, List, [], ◌∷◌, ◌++◌, length, get_or, take, drop, replicate, refl, sym, ap, subst, ◌∙◌, arith}
use Rattle.std.specs.List.{All}
use Rattle.std.proofs.lemmas.List.{length-take-le, length-drop, length-replicate, get_or-replicate, ext_get_or}
use Rattle.field_rules.specs.Lists.{AreDistinct}
use Rattle.field_rules.specs.Ops.{Ops, IsRing}
use Rattle.field_rules.specs.Fields.{IsField, conjugate, dot_of}
use Rattle.poly_rules.specs.Polynomials.{coefficient, IsMonic, value_at}
use Rattle.poly_rules.specs.Roots.{IsRoot, with_roots}
use Rattle.field_laws.proofs.Conjugates.{conjugate-next}
use Rattle.field_laws.proofs.RingFacts.{zero_plus, times_zero, same_of_sum}
use Rattle.poly_laws.proofs.Remainders.{monic-split}
use Rattle.poly_laws.proofs.Roots.{with_roots-monic, with_roots-root}
use Rattle.recurrence_laws.proofs.Applied.{dot_of-take}
use Rattle.recurrence_laws.proofs.Monic.{dot_of-end}
use Rattle.sequence_laws.specs.Sequences.{weighted, sequence_of, IsUnit, IsSquareSequence, row_of}
use Rattle.sequence_laws.proofs.Weighing.{weighted-same, weighted-zero}
use Rattle.sequence_laws.proofs.Sequences.{length-sequence_of, get_or-sequence_of, drop-sequence_of, take-sequence_of, sequence_of-append, sequence_of-same, dot_of-sequence}
use Rattle.sequence_laws.proofs.Squaring.{square_law}
use Rattle.sequence_laws.proofs.Powers.{row_of-up}

module _ {A : Type 0} (ops : Ops A) (ring : IsRing ops) where
  -- a dot with a list that begins with zeros
  dot_of-behind : (j : ℕ) (f w : List A) → j ≤ length w → ((i : ℕ) → i < j → coefficient ops w i ≡ ops.zero) → dot_of ops f w ≡ dot_of ops (drop j f) (drop j w)
  unfolding dot_of
  dot_of-behind zero f w within none = refl
  dot_of-behind (suc j) [] w within none = refl
  dot_of-behind (suc j) (a ∷ f) [] within none = absurd (omega arith)
  dot_of-behind (suc j) (a ∷ f) (b ∷ w) within none =
      ap (λ z. ops.plus (ops.times a z) (dot_of ops f w)) (none 0 (omega arith))
      ∙ ap (λ z. ops.plus z (dot_of ops f w)) (times_zero ops ring a)
      ∙ zero_plus ops ring (dot_of ops f w)
      ∙ dot_of-behind j f w (omega arith) (λ i lt. none (suc i) (omega arith))

  module _ (u : A → A) (es : List A) (unit : IsUnit ops u es) where
    -- the unit's sums are zero at first
    unit_zero : (k n i : ℕ) → i < n → k + i + 1 < length es → coefficient ops (sequence_of ops u es k n) i ≡ ops.zero
    unit_zero k n i lt low = get_or-sequence_of ops ring u es k n i ops.zero lt ∙ unit.low (k + i) low

    unit_zeros : (k m : ℕ) → k + m < length es → sequence_of ops u es k m ≡ replicate m ops.zero
    unit_zeros k m low =
        ext_get_or ops.zero (sequence_of ops u es k m) (replicate m ops.zero) (length-sequence_of ops ring u es k m ∙ sym (length-replicate m ops.zero))
        (λ i lt.
        (let inside : i < m = omega (arith, length-sequence_of ops ring u es k m) in
        unit_zero k m i inside (omega arith) ∙ sym (get_or-replicate m i ops.zero ops.zero inside)))

    -- then 1
    pub unit_first : (n : ℕ) → length es ≡ n + 1 → ops.one ∷ [] ≡ sequence_of ops u es n 1
    unfolding sequence_of
    unit_first n size = ap (λ z. z ∷ []) (sym (unit.last n (sym size)))

    -- and each after it is the dot of those from the first on with the highest coefficients below the top one
    pub unit_next : (f s : List A) (i : ℕ) → f ≡ with_roots ops es → 1 ≤ i → i ≤ length es → s ≡ sequence_of ops u es (length es - 1) i
        → s ++ dot_of ops (drop (length es - i) (take (length es) f)) s ∷ [] ≡ sequence_of ops u es (length es - 1) (i + 1)
    unfolding sequence_of
    unit_next f s i is some within so_far =
        ap (λ z. s ++ z ∷ []) (ap (dot_of ops (drop (n - i) low)) so_far ∙ is_next)
        ∙ ap (λ z. z ++ weighted ops u (n - 1 + i) es ∷ []) so_far
        ∙ sym (sequence_of-append ops ring u es (n - 1) i 1)
      where
        n : ℕ
        n = length es

        low : List A
        low = take n f

        monic : IsMonic ops n f
        monic = subst (IsMonic ops n) (sym is) (with_roots-monic ops ring es)

        roots : All (IsRoot ops f) es
        roots = subst (λ z. All (IsRoot ops z) es) (sym is) (with_roots-root ops ring es)

        low_size : length low ≡ n
        low_size = length-take-le n f (omega (arith, monic.size))

        s_all : List A
        s_all = sequence_of ops u es (i - 1) (n + 1)

        -- the whole polynomial has no dot with the sums from i - 1 on
        none : dot_of ops f s_all ≡ ops.zero
        none =
            dot_of-sequence ops ring f es u (i - 1) (n + 1) (omega (arith, monic.size))
            ∙ weighted-zero ops ring (λ e. ops.times (u e) (value_at ops f e)) (i - 1) es (λ j d lt. ap (ops.times (u (get_or es j d))) (roots j d lt) ∙ times_zero ops ring (u (get_or es j d)))

        behind : drop (n - i) s_all ≡ sequence_of ops u es (n - 1) (i + 1)
        behind =
            (let from : i - 1 + (n - i) ≡ n - 1 = omega arith in
            let left : n + 1 - (n - i) ≡ i + 1 = omega arith in
            drop-sequence_of ops ring u es (i - 1) (n - i) (n + 1) (omega arith) ∙ ap (λ k. sequence_of ops u es k (n + 1 - (n - i))) from ∙ ap (sequence_of ops u es (n - 1)) left)

        high_size : length (drop (n - i) low) ≡ i
        high_size = omega (arith, length-drop (n - i) low, low_size)

        -- of the coefficients below the top one, the dot is that of the highest
        of_low : dot_of ops low s_all ≡ dot_of ops (drop (n - i) low) (sequence_of ops u es (n - 1) i)
        of_low =
            dot_of-behind (n - i) low s_all (omega (arith, length-sequence_of ops ring u es (i - 1) (n + 1))) (λ j lt. unit_zero (i - 1) (n + 1) j (omega arith) (omega arith))
            ∙ ap (dot_of ops (drop (n - i) low)) behind
            ∙ sym (dot_of-take ops i (drop (n - i) low) (sequence_of ops u es (n - 1) (i + 1)) (omega (arith, high_size)))
            ∙ ap (dot_of ops (drop (n - i) low)) (take-sequence_of ops ring u es (n - 1) i (i + 1) (omega arith))

        is_next : dot_of ops (drop (n - i) low) (sequence_of ops u es (n - 1) i) ≡ weighted ops u (n - 1 + i) es
        is_next =
            same_of_sum ops ring (dot_of ops (drop (n - i) low) (sequence_of ops u es (n - 1) i)) (weighted ops u (n - 1 + i) es)
            (ap (λ z. ops.plus z (weighted ops u (n - 1 + i) es)) (sym of_low)
            ∙ ap (ops.plus (dot_of ops low s_all)) (sym at_top)
            ∙ sym (dot_of-end ops ring low s_all)
            ∙ ap (λ z. dot_of ops z s_all) (sym (monic-split ops n f monic))
            ∙ none)
          where
            at_top : coefficient ops s_all (length low) ≡ weighted ops u (n - 1 + i) es
            at_top =
                (let there : i - 1 + n ≡ n - 1 + i = omega arith in
                ap (coefficient ops s_all) low_size ∙ get_or-sequence_of ops ring u es (i - 1) (n + 1) n ops.zero (omega arith) ∙ ap (λ k. weighted ops u k es) there)

    -- the first rows: zeros, and the first of these sums
    pub first_rows : (j n m : ℕ) (s : List A) → length es ≡ n → 2 ^ j + 1 ≤ n → 2 ^ j + 1 ≤ m → s ≡ sequence_of ops u es (n - 1) m
        → replicate (n - 1 - 2 ^ j) ops.zero ++ take (2 ^ j + 1) s ≡ row_of ops u es j
    first_rows j n m s size fits enough is =
        ap (λ z. replicate (n - 1 - 2 ^ j) ops.zero ++ z)
        (ap (take (2 ^ j + 1)) is
        ∙ take-sequence_of ops ring u es (n - 1) (2 ^ j + 1) m enough
        ∙ (let from : n - 1 ≡ 2 ^ j + (n - 1 - 2 ^ j) = omega arith in ap (λ k. sequence_of ops u es k (2 ^ j + 1)) from))
        ∙ ap (λ z. z ++ sequence_of ops u es (2 ^ j + (n - 1 - 2 ^ j)) (2 ^ j + 1)) (sym (unit_zeros (2 ^ j) (n - 1 - 2 ^ j) (omega arith)))
        ∙ sym (sequence_of-append ops ring u es (2 ^ j) (n - 1 - 2 ^ j) (2 ^ j + 1))
        ∙ (let all : n - 1 - 2 ^ j + (2 ^ j + 1) ≡ length es = omega arith in ap (sequence_of ops u es (2 ^ j)) all)
        ∙ sym (row_of-up ops ring u es j)

  -- each further row
  pub next_row : (bits : ℕ) → IsField ops bits → (u : A → A) (es f s t : List A) (j : ℕ) → AreDistinct es → f ≡ with_roots ops es → IsUnit ops u es
      → s ≡ row_of ops u es j → IsSquareSequence ops f s t → t ≡ row_of ops u es (suc j)
  next_row bits field u es f s t j differ is unit row made =
      square_law ops ring u f es
      (subst (IsMonic ops (length es)) (sym is) (with_roots-monic ops ring es))
      (subst (λ z. All (IsRoot ops z) es) (sym is) (with_roots-root ops ring es))
      unit bits field differ (conjugate ops j) s t row made
      ∙ sequence_of-same ops ring (λ e. ops.times (ops.times (conjugate ops j e) (conjugate ops j e)) (u e)) (λ e. ops.times (conjugate ops (suc j) e) (u e)) es es (length es)
      (λ k lt. weighted-same ops ring (λ e. ops.times (ops.times (conjugate ops j e) (conjugate ops j e)) (u e)) (λ e. ops.times (conjugate ops (suc j) e) (u e)) k es
      (λ i d within. ap (λ z. ops.times z (u (get_or es i d))) (sym (conjugate-next ops j (get_or es i d)))))
