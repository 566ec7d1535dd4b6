-- The halves of a set that a function with the values zero and one tells apart: which of them the shortest recurrence of
-- its sequence belongs to, told by the last item.
use Rattle.std.proofs.Common.{◌≡◌, ◌≢◌, ◌⊎◌, inl, inr, ℕ, ◌+◌, ◌*◌, ◌<◌, ◌≤◌, Bool, true, false, not, List, ◌∷◌, length, get_or, drop, reverse, sym, ap, subst, ◌∙◌, arith}
use Rattle.std.specs.Prelude.{filter}
use Rattle.std.specs.List.{All}
use Rattle.std.proofs.lemmas.List.{get_or-drop}
use Rattle.std.proofs.lemmas.List.Elements.{All-filter, filter_passes}
use Rattle.field_rules.specs.Lists.{AreDistinct}
use Rattle.field_rules.specs.Ops.{Ops, IsRing}
use Rattle.field_rules.specs.Fields.{IsField, dot_of}
use Rattle.poly_rules.specs.Polynomials.{coefficient, IsMonic, value_at}
use Rattle.poly_rules.specs.Roots.{with_roots}
use Rattle.poly_rules.specs.Recurrences.{IsShortest}
use Rattle.field_laws.proofs.RingFacts.{one_times, times_zero, zero_times, zero_plus, distributes_left, same_of_sum}
use Rattle.sequence_laws.specs.Sequences.{weighted}
use Rattle.poly_laws.proofs.Roots.{with_roots-monic, with_roots-root}
use Rattle.recurrence_laws.proofs.Applied.{dot_of-top}
use Rattle.recurrence_laws.proofs.Monic.{monic_form}
use Rattle.splitting_laws.proofs.Parts.{parts-length, part-differ}
use Rattle.sequence_laws.proofs.Weighing.{weighted-same, weighted-plus, weighted-times, weighted-kept}
use Rattle.sequence_laws.specs.Sequences.{sequence_of}
use Rattle.sequence_laws.proofs.Sequences.{sequence_of-at, sequence_of-same, dot_of-from}
use Rattle.sequence_laws.specs.Sequences.{IsUnit}
use Rattle.sequence_laws.proofs.Units.{weights_only, unit_nonzero}
use Rattle.sequence_laws.proofs.Shortest.{window_of_roots, shortest_kept, shortest_of_sequence, zero_behind}

module _ {A : Type 0} (ops : Ops A) (ring : IsRing ops) where
  -- a is one where the test passes, and zero where it fails
  abbrev pub IsTold : (A → A) → (A → Bool) → A → Type 0
  IsTold a p e = ((a e ≡ ops.one) × (p e ≡ true)) ⊎ ((a e ≡ ops.zero) × (p e ≡ false))

  -- the weights a u over the set are the weights u over the part
  pub weighted-inside : (a u : A → A) (p : A → Bool) (k : ℕ) (es : List A) → All (IsTold a p) es → weighted ops (λ e. ops.times (a e) (u e)) k es ≡ weighted ops u k (filter p es)
  weighted-inside a u p k es told =
      weighted-kept ops ring (λ e. ops.times (a e) (u e)) p k es (λ i d lt. fails (get_or es i d) (told i d lt))
      ∙ weighted-same ops ring (λ e. ops.times (a e) (u e)) u k (filter p es)
      (λ i d lt. passes (get_or (filter p es) i d) (All-filter p (IsTold a p) es told i d lt) (filter_passes p es i d lt))
    where
      fails : (e : A) → IsTold a p e → p e ≡ false → ops.times (a e) (u e) ≡ ops.zero
      fails e (inl (one, passed)) failed = cc
      fails e (inr (none, failed)) _ = ap (λ z. ops.times z (u e)) none ∙ zero_times ops ring (u e)

      passes : (e : A) → IsTold a p e → p e ≡ true → ops.times (a e) (u e) ≡ u e
      passes e (inl (one, passed)) _ = ap (λ z. ops.times z (u e)) one ∙ one_times ops ring (u e)
      passes e (inr (none, failed)) passed = cc

  -- and 1 + a gives the others
  pub weighted-outside : (a u : A → A) (p : A → Bool) (k : ℕ) (es : List A) → All (IsTold a p) es
      → weighted ops u k (filter (λ e. not (p e)) es) ≡ ops.plus (weighted ops u k es) (weighted ops (λ e. ops.times (a e) (u e)) k es)
  weighted-outside a u p k es told =
      sym (weighted-inside (λ e. ops.plus ops.one (a e)) u (λ e. not (p e)) k es (λ i d lt. turned (get_or es i d) (told i d lt)))
      ∙ weighted-same ops ring (λ e. ops.times (ops.plus ops.one (a e)) (u e)) (λ e. ops.plus (u e) (ops.times (a e) (u e))) k es
      (λ i d lt. distributes_left ops ring ops.one (a (get_or es i d)) (u (get_or es i d)) ∙ ap (λ z. ops.plus z (ops.times (a (get_or es i d)) (u (get_or es i d)))) (one_times ops ring (u (get_or es i d))))
      ∙ weighted-plus ops ring u (λ e. ops.times (a e) (u e)) k es
    where
      turned : (e : A) → IsTold a p e → IsTold (λ e. ops.plus ops.one (a e)) (λ e. not (p e)) e
      turned e (inl (one, passed)) = inr (ap (ops.plus ops.one) one ∙ ring.plus_self ops.one, ap not passed)
      turned e (inr (none, failed)) = inl (ap (ops.plus ops.one) none ∙ ring.plus_zero ops.one, ap not failed)

  -- the dot of a monic polynomial with the unit's last window is one
  pub unit_window : (u : A → A) (f es : List A) (j k : ℕ) → IsUnit ops u es → IsMonic ops j f → k + j + 1 ≡ length es
      → weighted ops (λ e. ops.times (u e) (value_at ops f e)) k es ≡ ops.one
  unit_window u f es j k unit monic place =
      sym (dot_of-from ops ring f es u k (length es) (omega (arith, monic.size)))
      ∙ dot_of-top ops ring j f (drop k (sequence_of ops u es 0 (length es))) monic
      (λ i lt. at i (omega arith) ∙ unit.low (k + i) (omega arith))
      ∙ at j (omega arith)
      ∙ unit.last (k + j) place
    where
      at : (i : ℕ) → k + i < length es → coefficient ops (drop k (sequence_of ops u es 0 (length es))) i ≡ weighted ops u (k + i) es
      at i lt = get_or-drop k (sequence_of ops u es 0 (length es)) i ops.zero ∙ sequence_of-at ops ring u es (length es) (k + i) lt

  module _ (bits : ℕ) (field : IsField ops bits) (a u : A → A) (es : List A) (differ : AreDistinct es) (unit : IsUnit ops u es) where
    nonzero : All (λ e. u e ≢ ops.zero) es
    nonzero = unit_nonzero ops ring bits field u (with_roots ops es) es (with_roots-monic ops ring es) (with_roots-root ops ring es) unit

    -- ---- a sequence of zeros up to the last item

    -- the function has one value on the set, the last item
    pub constant_of_flat : (c : A) → ((k : ℕ) → k + 1 < length es → weighted ops (λ e. ops.times (a e) (u e)) k es ≡ ops.zero)
        → ((k : ℕ) → k + 1 ≡ length es → weighted ops (λ e. ops.times (a e) (u e)) k es ≡ c) → All (λ e. a e ≡ c) es
    constant_of_flat c flat last i d lt =
        same_of_sum ops ring (a x) c
        (zero_behind ops ring bits field (u x) (ops.plus (a x) c) (nonzero i d lt)
        (ring.times_comm (u x) (ops.plus (a x) c) ∙ distributes_left ops ring (a x) c (u x) ∙ ap (λ z. ops.plus z (ops.times c (u x))) (same i d lt) ∙ ring.plus_self (ops.times c (u x))))
      where
        x : A
        x = get_or es i d

        same : All (λ e. ops.times (a e) (u e) ≡ ops.times c (u e)) es
        same = weights_only ops ring bits field (λ e. ops.times (a e) (u e)) (λ e. ops.times c (u e)) es differ
            (λ k within. at k (cases k (length es) within) ∙ sym (weighted-times ops ring c u k es))
          where
            cases : (i j : ℕ) → i < j → (i + 1 < j) ⊎ (i + 1 ≡ j)
            cases i j lt = grind arith

            at : (k : ℕ) → (k + 1 < length es) ⊎ (k + 1 ≡ length es) → weighted ops (λ e. ops.times (a e) (u e)) k es ≡ ops.times c (weighted ops u k es)
            at k (inl low) = flat k low ∙ sym (times_zero ops ring c) ∙ ap (ops.times c) (sym (unit.low k low))
            at k (inr top) = last k top ∙ sym (ring.times_one c) ∙ ap (ops.times c) (sym (unit.last k top))

    -- ---- the halves

    module _ (p : A → Bool) (told : All (IsTold a p) es) (m : ℕ) (size : length es ≡ m + 1) where
      abbrev pub part : List A
      part = filter p es

      abbrev pub others : List A
      others = filter (λ e. not (p e)) es

      -- the sequences of the halves, of all items
      pub inside : (n : ℕ) → sequence_of ops (λ e. ops.times (a e) (u e)) es 0 n ≡ sequence_of ops u part 0 n
      inside n = sequence_of-same ops ring (λ e. ops.times (a e) (u e)) u es part n (λ k lt. weighted-inside a u p k es told)

      -- they are one but for the last item
      pub alike_below : sequence_of ops u others 0 m ≡ sequence_of ops u part 0 m
      alike_below = sequence_of-same ops ring u u others part m
          (λ k lt.
          weighted-outside a u p k es told
          ∙ ap (λ z. ops.plus z (weighted ops (λ e. ops.times (a e) (u e)) k es)) (unit.low k (omega arith))
          ∙ zero_plus ops ring (weighted ops (λ e. ops.times (a e) (u e)) k es)
          ∙ weighted-inside a u p k es told)

      part_nonzero : All (λ e. u e ≢ ops.zero) part
      part_nonzero = All-filter p (λ e. u e ≢ ops.zero) es nonzero

      others_nonzero : All (λ e. u e ≢ ops.zero) others
      others_nonzero = All-filter (λ e. not (p e)) (λ e. u e ≢ ops.zero) es nonzero

      module _ (cs : List A) (k : ℕ) (shortest : IsShortest ops cs (sequence_of ops u part 0 m)) (place : k + length cs ≡ m) where
        abbrev v : A → A
        v e = value_at ops (reverse (ops.one ∷ cs)) e

        -- what it gives at the last item of the one and of the other half
        abbrev pub discrepancy : A
        discrepancy = dot_of ops (reverse (ops.one ∷ cs)) (drop k (sequence_of ops u part 0 (m + 1)))

        abbrev other : A
        other = dot_of ops (reverse (ops.one ∷ cs)) (drop k (sequence_of ops u others 0 (m + 1)))

        fits : k + length (reverse (ops.one ∷ cs)) ≤ m + 1
        fits = omega (arith, (monic_form ops ring cs).size)

        -- they differ by one
        differ_by_one : other ≡ ops.plus ops.one discrepancy
        differ_by_one =
            dot_of-from ops ring (reverse (ops.one ∷ cs)) others u k (m + 1) fits
            ∙ weighted-outside a (λ e. ops.times (u e) (v e)) p k es told
            ∙ ap (λ z. ops.plus z (weighted ops (λ e. ops.times (a e) (ops.times (u e) (v e))) k es))
            (unit_window u (reverse (ops.one ∷ cs)) es (length cs) k unit (monic_form ops ring cs) (omega arith))
            ∙ ap (ops.plus ops.one)
            (weighted-inside a (λ e. ops.times (u e) (v e)) p k es told
            ∙ sym (dot_of-from ops ring (reverse (ops.one ∷ cs)) part u k (m + 1) fits))

        sizes : length part + length others ≡ m + 1
        sizes = parts-length p es ∙ size

        of_others : IsShortest ops cs (sequence_of ops u others 0 m)
        of_others = subst (IsShortest ops cs) (sym alike_below) shortest

        -- a small half is found before the last item, and then the last item is told
        small_part : 2 * length part ≤ m → discrepancy ≡ ops.zero
        small_part le =
            ap (λ z. dot_of ops z (drop k (sequence_of ops u part 0 (m + 1))))
            (shortest_of_sequence ops ring bits field u part (part-differ p es differ) part_nonzero cs m le shortest).1
            ∙ window_of_roots ops ring (with_roots ops part) part u k (m + 1) (with_roots-root ops ring part)
            (omega (arith, (with_roots-monic ops ring part).size, (shortest_of_sequence ops ring bits field u part (part-differ p es differ) part_nonzero cs m le shortest).0))

        small_others : 2 * length others ≤ m → discrepancy ≡ ops.one
        small_others le =
            sym (same_of_sum ops ring ops.one discrepancy
            (sym differ_by_one
            ∙ ap (λ z. dot_of ops z (drop k (sequence_of ops u others 0 (m + 1))))
            (shortest_of_sequence ops ring bits field u others (part-differ (λ e. not (p e)) es differ) others_nonzero cs m le of_others).1
            ∙ window_of_roots ops ring (with_roots ops others) others u k (m + 1) (with_roots-root ops ring others)
            (omega (arith, (with_roots-monic ops ring others).size, (shortest_of_sequence ops ring bits field u others (part-differ (λ e. not (p e)) es differ) others_nonzero cs m le of_others).0))))

        cases : (i j : ℕ) → (2 * i ≤ j) ⊎ (j + 1 ≤ 2 * i)
        cases i j = grind arith

        -- a last discrepancy of zero: the half where a is one
        pub told_zero : discrepancy ≡ ops.zero → (length cs ≡ length part) × (reverse (ops.one ∷ cs) ≡ with_roots ops part)
        told_zero none = by_size (cases (length part) (m + 1))
          where
            by_size : (2 * length part ≤ m + 1) ⊎ (m + 1 + 1 ≤ 2 * length part) → (length cs ≡ length part) × (reverse (ops.one ∷ cs) ≡ with_roots ops part)
            by_size (inl le) =
                shortest_of_sequence ops ring bits field u part (part-differ p es differ) part_nonzero cs (m + 1) le (shortest_kept ops ring cs part u m k shortest place none)
            by_size (inr large) = absurd (field.apart (sym (small_others (omega (arith, sizes))) ∙ none))

        -- one: the half where a is zero
        pub told_one : discrepancy ≡ ops.one → (length cs ≡ length others) × (reverse (ops.one ∷ cs) ≡ with_roots ops others)
        told_one one = by_size (cases (length others) (m + 1))
          where
            by_size : (2 * length others ≤ m + 1) ⊎ (m + 1 + 1 ≤ 2 * length others) → (length cs ≡ length others) × (reverse (ops.one ∷ cs) ≡ with_roots ops others)
            by_size (inl le) =
                shortest_of_sequence ops ring bits field u others (part-differ (λ e. not (p e)) es differ) others_nonzero cs (m + 1) le
                (shortest_kept ops ring cs others u m k of_others place (differ_by_one ∙ ap (ops.plus ops.one) one ∙ ring.plus_self ops.one))
            by_size (inr large) = absurd (field.apart (sym one ∙ small_part (omega (arith, sizes))))

        -- else both have half of the members, and the recurrence of all items is that of the half where a is one
        pub told_even : discrepancy ≢ ops.zero → discrepancy ≢ ops.one → (ds : List A) → IsShortest ops ds (sequence_of ops u part 0 (m + 1))
            → (2 * length part ≡ m + 1) × (length ds ≡ length part) × (reverse (ops.one ∷ ds) ≡ with_roots ops part)
        told_even some other_one ds whole = by_sizes (cases (length part) m) (cases (length others) m)
          where
            by_sizes : (2 * length part ≤ m) ⊎ (m + 1 ≤ 2 * length part) → (2 * length others ≤ m) ⊎ (m + 1 ≤ 2 * length others)
                → (2 * length part ≡ m + 1) × (length ds ≡ length part) × (reverse (ops.one ∷ ds) ≡ with_roots ops part)
            by_sizes (inl small) _ = absurd (some (small_part small))
            by_sizes (inr large) (inl small) = absurd (other_one (small_others small))
            by_sizes (inr large) (inr large_others) =
                let found : (length ds ≡ length part) × (reverse (ops.one ∷ ds) ≡ with_roots ops part) =
                shortest_of_sequence ops ring bits field u part (part-differ p es differ) part_nonzero ds (m + 1) (omega (arith, sizes)) whole in
                (omega (arith, sizes), found.0, found.1)
