-- The sequence of the square of a function, from the squares of the items of its sequence: n ^ 2 / 2 products by the
-- coefficients of a fixed polynomial.
use Rattle.std.proofs.Common.{◌≡◌, ◌⊎◌, inl, inr, ℕ, zero, suc, ◌+◌, ◌-◌, ◌<◌, ◌≤◌, List, [], ◌∷◌, length, get_or, drop, refl, sym, ap, subst, ◌∙◌, arith}
use Rattle.std.proofs.Math.Nat.{suc-add}
use Rattle.std.specs.List.{All}
use Rattle.std.proofs.lemmas.List.{get_or-drop}
use Rattle.field_rules.specs.Lists.{AreDistinct}
use Rattle.field_rules.specs.Ops.{Ops, IsRing}
use Rattle.field_rules.specs.Fields.{IsField, dot_of}
use Rattle.poly_rules.specs.Polynomials.{coefficient, IsMonic, value_at}
use Rattle.poly_rules.specs.Roots.{IsRoot}
use Rattle.field_laws.proofs.RingFacts.{times_zero, times_swap}
use Rattle.sequence_laws.specs.Sequences.{weighted}
use Rattle.sequence_laws.proofs.Weighing.{weighted-zero}
use Rattle.recurrence_laws.proofs.Applied.{dot_of-zeros, dot_of-top}
use Rattle.sequence_laws.specs.Halves.{evens, odds}
use Rattle.sequence_laws.specs.Sequences.{squares_of, IsSquareSequence}
use Rattle.sequence_laws.proofs.Weighing.{weighted-same, weighted-next, weighted-after, weighted-joined, weighted-square}
use Rattle.sequence_laws.specs.Sequences.{sequence_of}
use Rattle.sequence_laws.proofs.Sequences.{length-sequence_of, is_sequence, sequence_of-at}
use Rattle.sequence_laws.proofs.Halves.{length-halves, halves_even, odds-monic, evens-monic, halves_meet}
use Rattle.sequence_laws.specs.Sequences.{IsUnit}
use Rattle.sequence_laws.proofs.Units.{weights_only}

module _ {A : Type 0} (ops : Ops A) (ring : IsRing ops) where
  -- ---- every other sum

  -- the n sums of v e * e ^ k, v e * e ^ (k + 2), ..
  unfoldable pub doubled : (A → A) → List A → ℕ → ℕ → List A
  doubled v es k zero = []
  doubled v es k (suc n) = weighted ops v k es ∷ doubled v es (k + 2) n

  pub squares-doubled : (w : A → A) (es : List A) (k n : ℕ) → squares_of ops (sequence_of ops w es k n) ≡ doubled (λ e. ops.times (w e) (w e)) es (k + k) n
  unfolding sequence_of doubled
  squares-doubled w es k zero = refl
  squares-doubled w es k (suc n) =
      let there : k + 1 + (k + 1) ≡ k + k + 2 = omega arith in
      ap (λ z. z ∷ squares_of ops (sequence_of ops w es (k + 1) n)) (weighted-square ops ring w k es)
      ∙ ap (λ z. weighted ops (λ e. ops.times (w e) (w e)) (k + k) es ∷ z)
      (squares-doubled w es (k + 1) n ∙ ap (λ i. doubled (λ e. ops.times (w e) (w e)) es i n) there)

  pub drop_doubled : (v : A → A) (es : List A) (k j m : ℕ) → drop j (doubled v es k (j + m)) ≡ doubled v es (k + (j + j)) m
  unfolding doubled
  drop_doubled v es k zero m =
      let same : 0 + m ≡ m = omega arith in
      let there : k ≡ k + (0 + 0) = omega arith in
      ap (doubled v es k) same ∙ ap (λ i. doubled v es i m) there
  drop_doubled v es k (suc j) m =
      let there : k + 2 + (j + j) ≡ k + (suc j + suc j) = omega arith in
      ap (λ n. drop (suc j) (doubled v es k n)) (suc-add j m)
      ∙ drop_doubled v es (k + 2) j m
      ∙ ap (λ i. doubled v es i m) there

  get_or_doubled : (v : A → A) (es : List A) (k n j : ℕ) (d : A) → j < n → get_or (doubled v es k n) j d ≡ weighted ops v (k + (j + j)) es
  unfolding doubled
  get_or_doubled v es k zero j d lt = absurd (omega arith)
  get_or_doubled v es k (suc n) zero d lt = let here : k ≡ k + (0 + 0) = omega arith in ap (λ i. weighted ops v i es) here
  get_or_doubled v es k (suc n) (suc j) d lt =
      let there : k + 2 + (j + j) ≡ k + (suc j + suc j) = omega arith in
      get_or_doubled v es (k + 2) n j d (omega arith) ∙ ap (λ i. weighted ops v i es) there

  -- a dot with them has the values at e ^ 2
  pub dot_of_doubled : (g es : List A) (v : A → A) (k n : ℕ) → length g ≤ n
      → dot_of ops g (doubled v es k n) ≡ weighted ops (λ e. ops.times (v e) (value_at ops g (ops.times e e))) k es
  unfolding dot_of doubled value_at
  dot_of_doubled [] es v k n le =
      sym (weighted-zero ops ring (λ e. ops.times (v e) (value_at ops [] (ops.times e e))) k es (λ i d lt. times_zero ops ring (v (get_or es i d))))
  dot_of_doubled (a ∷ g) es v k zero le = absurd (omega arith)
  dot_of_doubled (a ∷ g) es v k (suc n) le =
      ap (ops.plus (ops.times a (weighted ops v k es)))
      (dot_of_doubled g es v (k + 2) n (omega arith)
      ∙ weighted-after ops ring (λ e. ops.times (v e) (value_at ops g (ops.times e e))) k es
      ∙ weighted-same ops ring (λ e. ops.times (ops.times (v e) (value_at ops g (ops.times e e))) (ops.times e e)) (λ e. ops.times (v e) (ops.times (ops.times e e) (value_at ops g (ops.times e e)))) k es
      (λ i d lt. ring.times_assoc (v (get_or es i d)) (value_at ops g (ops.times (get_or es i d) (get_or es i d))) (ops.times (get_or es i d) (get_or es i d))
      ∙ ap (ops.times (v (get_or es i d))) (ring.times_comm (value_at ops g (ops.times (get_or es i d) (get_or es i d))) (ops.times (get_or es i d) (get_or es i d)))))
      ∙ weighted-joined ops ring a v (λ e. ops.times (ops.times e e) (value_at ops g (ops.times e e))) k es

  -- with the squares of a sequence
  pub dot_of-squares : (g es : List A) (w : A → A) (m n : ℕ) → m + length g ≤ n
      → dot_of ops g (drop m (squares_of ops (sequence_of ops w es 0 n))) ≡ weighted ops (λ e. ops.times (ops.times (w e) (w e)) (value_at ops g (ops.times e e))) (m + m) es
  dot_of-squares g es w m n le =
      let whole : n ≡ m + (n - m) = omega arith in
      let here : 0 + 0 + (m + m) ≡ m + m = omega arith in
      ap (λ z. dot_of ops g (drop m z)) (squares-doubled w es 0 n ∙ ap (doubled (λ e. ops.times (w e) (w e)) es (0 + 0)) whole)
      ∙ ap (dot_of ops g) (drop_doubled (λ e. ops.times (w e) (w e)) es (0 + 0) m (n - m))
      ∙ dot_of_doubled g es (λ e. ops.times (w e) (w e)) (0 + 0 + (m + m)) (n - m) (omega arith)
      ∙ ap (λ j. weighted ops (λ e. ops.times (ops.times (w e) (w e)) (value_at ops g (ops.times e e))) j es) here

  -- ---- the halves of a polynomial that vanishes on the set

  -- w e ^ 2 times the odd half at e ^ 2
  abbrev pub halved : List A → (A → A) → A → A
  halved f w e = ops.times (ops.times (w e) (w e)) (value_at ops (odds f) (ops.times e e))

  pub even_window : (f es : List A) (w : A → A) (m n : ℕ) → All (IsRoot ops f) es → m + length (evens f) ≤ n
      → dot_of ops (evens f) (drop m (squares_of ops (sequence_of ops w es 0 n))) ≡ weighted ops (halved f w) (m + m + 1) es
  even_window f es w m n roots le =
      dot_of-squares (evens f) es w m n le
      ∙ weighted-same ops ring (λ e. ops.times (ops.times (w e) (w e)) (value_at ops (evens f) (ops.times e e))) (λ e. ops.times (halved f w e) e) (m + m) es
      (λ i d lt. term (get_or es i d) (roots i d lt))
      ∙ sym (weighted-next ops ring (halved f w) (m + m) es)
    where
      term : (e : A) → IsRoot ops f e → ops.times (ops.times (w e) (w e)) (value_at ops (evens f) (ops.times e e)) ≡ ops.times (halved f w e) e
      term e root =
          ap (ops.times (ops.times (w e) (w e))) (halves_meet ops ring f e root ∙ ring.times_comm e (value_at ops (odds f) (ops.times e e)))
          ∙ sym (ring.times_assoc (ops.times (w e) (w e)) (value_at ops (odds f) (ops.times e e)) e)

  -- ---- the law

  parity : (k : ℕ) → ((m : ℕ) × (m + m ≡ k)) ⊎ ((m : ℕ) × (m + m + 1 ≡ k))
  parity zero = inl (0, refl)
  parity (suc k) = next (parity k)
    where
      next : ((m : ℕ) × (m + m ≡ k)) ⊎ ((m : ℕ) × (m + m + 1 ≡ k)) → ((m : ℕ) × (m + m ≡ suc k)) ⊎ ((m : ℕ) × (m + m + 1 ≡ suc k))
      next (inl (m, e)) = inr (m, omega arith)
      next (inr (m, e)) = inl (suc m, omega arith)

  -- what the code makes is the sequence of these weights, whatever w is
  pub square_windows : (f es : List A) (w : A → A) (t : List A) → length f ≡ length es + 1 → All (IsRoot ops f) es
      → IsSquareSequence ops f (sequence_of ops w es 0 (length es)) t → t ≡ sequence_of ops (halved f w) es 0 (length es)
  square_windows f es w t size roots made =
      is_sequence ops ring (halved f w) es (length es) t (made.size ∙ full) (λ k lt. at k lt (parity k))
    where
      full : length (sequence_of ops w es 0 (length es)) ≡ length es
      full = length-sequence_of ops ring w es 0 (length es)

      at : (k : ℕ) → k < length es → ((m : ℕ) × (m + m ≡ k)) ⊎ ((m : ℕ) × (m + m + 1 ≡ k)) → coefficient ops t k ≡ weighted ops (halved f w) k es
      at k lt (inl (m, e)) =
          ap (coefficient ops t) (sym e)
          ∙ made.at_even m (omega (arith, full))
          ∙ dot_of-squares (odds f) es w m (length es) (omega (arith, size, length-halves f, (halves_even f).0, (halves_even f).1))
          ∙ ap (λ j. weighted ops (halved f w) j es) e
      at k lt (inr (m, e)) =
          ap (coefficient ops t) (sym e)
          ∙ made.at_odd m (omega (arith, full))
          ∙ even_window f es w m (length es) roots (omega (arith, size, length-halves f, (halves_even f).0, (halves_even f).1))
          ∙ ap (λ j. weighted ops (halved f w) j es) e

  module _ (u : A → A) (f es : List A) (monic : IsMonic ops (length es) f) (roots : All (IsRoot ops f) es) (unit : IsUnit ops u es) where
    abbrev items : List A
    items = squares_of ops (sequence_of ops u es 0 (length es))

    item : (i : ℕ) (z : A) → i < length es → weighted ops u i es ≡ z → coefficient ops items i ≡ ops.times z z
    item i z lt is =
        ap (λ s. coefficient ops s i) (squares-doubled u es 0 (length es))
        ∙ get_or_doubled (λ e. ops.times (u e) (u e)) es (0 + 0) (length es) i ops.zero lt
        ∙ (let here : 0 + 0 + (i + i) ≡ i + i = omega arith in ap (λ j. weighted ops (λ e. ops.times (u e) (u e)) j es) here)
        ∙ sym (weighted-square ops ring u i es)
        ∙ ap (λ y. ops.times y y) is

    low_item : (i : ℕ) → i + 1 < length es → coefficient ops items i ≡ ops.zero
    low_item i lt = item i ops.zero (omega arith) (unit.low i lt) ∙ times_zero ops ring ops.zero

    last_item : (i : ℕ) → i + 1 ≡ length es → coefficient ops items i ≡ ops.one
    last_item i e = item i ops.one (omega arith) (unit.last i e) ∙ ring.times_one ops.one

    -- a half that ends before the last item
    dot_low : (g : List A) (m : ℕ) → m + length g + 1 ≤ length es → dot_of ops g (drop m items) ≡ ops.zero
    dot_low g m le = dot_of-zeros ops ring g (drop m items) (λ i lt. get_or-drop m items i ops.zero ∙ low_item (m + i) (omega arith))

    -- and one that ends at it
    dot_last : (j : ℕ) (g : List A) (m : ℕ) → IsMonic ops j g → m + j + 1 ≡ length es → dot_of ops g (drop m items) ≡ ops.one
    dot_last j g m is e =
        dot_of-top ops ring j g (drop m items) is (λ i lt. get_or-drop m items i ops.zero ∙ low_item (m + i) (omega arith))
        ∙ get_or-drop m items j ops.zero
        ∙ last_item (m + j) (omega arith)

    last_or_low : (k : ℕ) → k < length es → (k + 1 < length es) ⊎ (k + 1 ≡ length es)
    last_or_low k lt = cases k (length es) lt
      where
        cases : (i j : ℕ) → i < j → (i + 1 < j) ⊎ (i + 1 ≡ j)
        cases i j lt = grind arith

    -- the unit's own square is the unit
    own_sums : (k : ℕ) → k < length es → weighted ops (halved f u) k es ≡ weighted ops u k es
    own_sums k lt = at (parity k) (last_or_low k lt)
      where
        at : ((m : ℕ) × (m + m ≡ k)) ⊎ ((m : ℕ) × (m + m + 1 ≡ k)) → (k + 1 < length es) ⊎ (k + 1 ≡ length es) → weighted ops (halved f u) k es ≡ weighted ops u k es
        at (inl (m, e)) place =
            ap (λ j. weighted ops (halved f u) j es) (sym e)
            ∙ sym (dot_of-squares (odds f) es u m (length es) (omega (arith, monic.size, length-halves f, (halves_even f).0, (halves_even f).1)))
            ∙ by_place place
          where
            by_place : (k + 1 < length es) ⊎ (k + 1 ≡ length es) → dot_of ops (odds f) (drop m items) ≡ weighted ops u k es
            by_place (inl low) = dot_low (odds f) m (omega (arith, monic.size, length-halves f, (halves_even f).0, (halves_even f).1)) ∙ sym (unit.low k low)
            by_place (inr last) =
                (let degree : length es ≡ m + m + 1 = omega arith in
                dot_last m (odds f) m (odds-monic ops m f (subst (λ z. IsMonic ops z f) degree monic)) (omega arith))
                ∙ sym (unit.last k last)
        at (inr (m, e)) place =
            ap (λ j. weighted ops (halved f u) j es) (sym e)
            ∙ sym (even_window f es u m (length es) roots (omega (arith, monic.size, length-halves f, (halves_even f).0, (halves_even f).1)))
            ∙ by_place place
          where
            by_place : (k + 1 < length es) ⊎ (k + 1 ≡ length es) → dot_of ops (evens f) (drop m items) ≡ weighted ops u k es
            by_place (inl low) = dot_low (evens f) m (omega (arith, monic.size, length-halves f, (halves_even f).0, (halves_even f).1)) ∙ sym (unit.low k low)
            by_place (inr last) =
                (let degree : length es ≡ m + 1 + (m + 1) = omega arith in
                dot_last (m + 1) (evens f) m (evens-monic ops (m + 1) f (subst (λ z. IsMonic ops z f) degree monic)) (omega arith))
                ∙ sym (unit.last k last)

    module _ (bits : ℕ) (field : IsField ops bits) (differ : AreDistinct es) where
      unit_squared : All (λ e. halved f u e ≡ u e) es
      unit_squared = weights_only ops ring bits field (halved f u) u es differ own_sums

      -- the sequence of a ^ 2 from that of a
      pub square_law : (a : A → A) (s t : List A) → s ≡ sequence_of ops (λ e. ops.times (a e) (u e)) es 0 (length es) → IsSquareSequence ops f s t
          → t ≡ sequence_of ops (λ e. ops.times (ops.times (a e) (a e)) (u e)) es 0 (length es)
      square_law a s t is made =
          square_windows f es (λ e. ops.times (a e) (u e)) t monic.size roots (subst (λ z. IsSquareSequence ops f z t) is made)
          ∙ is_sequence ops ring (λ e. ops.times (ops.times (a e) (a e)) (u e)) es (length es) (sequence_of ops (halved f (λ e. ops.times (a e) (u e))) es 0 (length es))
          (length-sequence_of ops ring (halved f (λ e. ops.times (a e) (u e))) es 0 (length es))
          (λ k lt. sequence_of-at ops ring (halved f (λ e. ops.times (a e) (u e))) es (length es) k lt
          ∙ weighted-same ops ring (halved f (λ e. ops.times (a e) (u e))) (λ e. ops.times (ops.times (a e) (a e)) (u e)) k es
          (λ i d within. term (get_or es i d) (unit_squared i d within)))
        where
          term : (e : A) → halved f u e ≡ u e → halved f (λ e. ops.times (a e) (u e)) e ≡ ops.times (ops.times (a e) (a e)) (u e)
          term e own =
              ap (λ z. ops.times z (value_at ops (odds f) (ops.times e e))) (times_swap ops ring (a e) (u e) (a e) (u e))
              ∙ ring.times_assoc (ops.times (a e) (a e)) (ops.times (u e) (u e)) (value_at ops (odds f) (ops.times e e))
              ∙ ap (ops.times (ops.times (a e) (a e))) own
