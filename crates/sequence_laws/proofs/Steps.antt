-- The steps of taking a set apart by sequences.
use Rattle.std.proofs.Common.{◌≡◌, ◌≢◌, ◌⊎◌, inl, inr, ℕ, ◌+◌, ◌-◌, ◌*◌, ◌^◌, ◌<◌, ◌≤◌, Bool, true, false, not, List, [], ◌∷◌, length, get_or, take, drop, reverse, refl, sym, ap, subst, ◌∙◌, arith}
use Rattle.std.specs.Prelude.{nat_eq, filter}
use Rattle.std.specs.List.{All}
use Rattle.std.proofs.lemmas.List.{get_or-take, length-take-le}
use Rattle.std.proofs.lemmas.List.Elements.{All-filter, filter_passes, filter_agree}
use Rattle.field_rules.specs.Lists.{AreDistinct}
use Rattle.field_rules.specs.Ops.{Ops, IsRing}
use Rattle.field_rules.specs.Fields.{IsField, trace_of, dot_of}
use Rattle.field_rules.specs.Numbered.{IsNumbered}
use Rattle.poly_rules.specs.Polynomials.{coefficient, IsMonic, value_at}
use Rattle.poly_rules.specs.Recurrences.{IsShortest}
use Rattle.poly_rules.specs.Roots.{IsRoot, with_roots}
use Rattle.poly_laws.proofs.Roots.{with_roots-monic, with_roots-root}
use Rattle.splitting_laws.specs.Alike.{IsAlike}
use Rattle.splitting_laws.proofs.Alike.{alike_more, alike_part}
use Rattle.splitting_laws.proofs.Parts.{parts-length, part-differ}
use Rattle.splitting_laws.proofs.Factors.{with_roots-lone}
use Rattle.splitting_laws.specs.Parts.{IsCorrelation}
use Rattle.sequence_laws.specs.Sequences.{weighted, sequence_of, IsUnit}
use Rattle.sequence_laws.specs.Parts.{IsTraceSequence, IsPart, AreCorrelations}
use Rattle.sequence_laws.proofs.Sequences.{length-sequence_of, sequence_of-at, take-sequence_of}
use Rattle.sequence_laws.proofs.Existence.{inverses, unit_exists}
use Rattle.sequence_laws.proofs.Shortest.{shortest_within}
use Rattle.sequence_laws.proofs.Parting.{IsTold, constant_of_flat, inside, alike_below, told_zero, told_one, told_even}
use Rattle.sequence_laws.proofs.Descent.{unit_of_part, sequence_of_part}

module _ {A : Type 0} (ops : Ops A) (ring : IsRing ops) (bits_of : A → ℕ) (width : ℕ) (field : IsField ops width) (numbered : IsNumbered ops bits_of width) where
  -- a set and its polynomial are a part, with no sequences yet
  pub whole_part : (first : ℕ) (es f : List A) → AreDistinct es → f ≡ with_roots ops es → (u : A → A) × IsPart ops bits_of width first u es f []
  whole_part first es f differ is =
      let inv : (inv : A → A) × _ = inverses ops ring bits_of width width field numbered in
      let u : (u : A → A) × IsUnit ops u es = unit_exists ops ring inv.0 inv.1 es differ in
      (u.0, record { distinct = differ; locator_is = is; unit = u.1; traces = λ i lt. absurd (omega arith) })

  -- a lone member is the constant of its polynomial
  pub lone_member : (first : ℕ) (u : A → A) (es f : List A) (sequences : List (List A)) (d : A) → IsPart ops bits_of width first u es f sequences → length f ≡ 2 → es ≡ get_or f 0 d ∷ []
  lone_member first u es f sequences d part two = by_list es part.locator_is
    where
      by_list : (es : List A) → f ≡ with_roots ops es → es ≡ get_or f 0 d ∷ []
      by_list [] is = absurd (omega (arith, ap length is, (with_roots-monic ops ring []).size))
      by_list (e ∷ []) is = ap (λ z. z ∷ []) (sym (ap (λ z. get_or z 0 d) (is ∙ with_roots-lone ops ring e)))
      by_list (e ∷ x ∷ es) is = absurd (omega (arith, ap length is, (with_roots-monic ops ring (e ∷ x ∷ es)).size))

  -- ---- a exponent

  module _ (exponent : ℕ) (b : A) (bits : bits_of b ≡ 2 ^ exponent) (u : A → A) (es : List A) (differ : AreDistinct es) (unit : IsUnit ops u es)
      (m : ℕ) (size : length es ≡ m + 1) (z : List A) (traced : IsTraceSequence ops bits_of width exponent u es z) where
    -- the trace, and whether it is one
    abbrev a : A → A
    a e = trace_of ops width (ops.times b e)

    abbrev pub has_one : A → Bool
    has_one e = nat_eq (bits_of (a e)) 1

    told : All (IsTold ops ring a has_one) es
    told i d lt = by (field.trace_is_bit (ops.times b (get_or es i d)))
      where
        by : (a (get_or es i d) ≡ ops.zero) ⊎ (a (get_or es i d) ≡ ops.one) → IsTold ops ring a has_one (get_or es i d)
        by (inl none) = inr (none, ap (λ n. nat_eq n 1) (ap bits_of none ∙ numbered.zero_bits))
        by (inr one) = inl (one, ap (λ n. nat_eq n 1) (ap bits_of one ∙ numbered.one_bits))

    abbrev part : List A
    part = filter has_one es

    abbrev others : List A
    others = filter (λ e. not (has_one e)) es

    -- each half is alike at one exponent more
    pub alike_halves : IsAlike ops bits_of width exponent es → IsAlike ops bits_of width (exponent + 1) part × IsAlike ops bits_of width (exponent + 1) others
    alike_halves alike = (
      alike_more ops bits_of width width numbered exponent b ops.one part bits
          (λ i d lt. one (get_or part i d) (All-filter has_one (IsTold ops ring a has_one) es told i d lt) (filter_passes has_one es i d lt))
          (alike_part ops bits_of width exponent has_one es alike),
      alike_more ops bits_of width width numbered exponent b ops.zero others bits
          (λ i d lt. none (get_or others i d) (All-filter (λ e. not (has_one e)) (IsTold ops ring a has_one) es told i d lt) (filter_passes (λ e. not (has_one e)) es i d lt))
          (alike_part ops bits_of width exponent (λ e. not (has_one e)) es alike),
    )
      where
        one : (e : A) → IsTold ops ring a has_one e → has_one e ≡ true → a e ≡ ops.one
        one e (inl (is, passed)) passes = is
        one e (inr (is, failed)) passes = cc

        none : (e : A) → IsTold ops ring a has_one e → not (has_one e) ≡ true → a e ≡ ops.zero
        none e (inl (is, passed)) passes = cc (ap not passed)
        none e (inr (is, failed)) passes = is

    whole : z ≡ sequence_of ops u part 0 (m + 1)
    whole = traced b bits ∙ ap (sequence_of ops (λ e. ops.times (a e) (u e)) es 0) size ∙ inside ops ring width field a u es differ unit has_one told m size (m + 1)

    front : take m z ≡ sequence_of ops u part 0 m
    front = ap (take m) whole ∙ take-sequence_of ops ring u part 0 m (m + 1) (omega arith)

    module _ (cs : List A) (shortest : IsShortest ops cs (take m z)) where
      of_part : IsShortest ops cs (sequence_of ops u part 0 m)
      of_part = subst (IsShortest ops cs) front shortest

      -- both halves have at least as many members as the recurrence is long
      pub halves_some : (length cs ≤ length part) × (length cs ≤ length others)
      halves_some = (
        shortest_within ops ring cs part u m of_part,
        shortest_within ops ring cs others u m (subst (IsShortest ops cs) (sym (alike_below ops ring width field a u es differ unit has_one told m size)) of_part),
      )

      -- an empty one tells none apart
      pub alike_still : length cs ≡ 0 → IsAlike ops bits_of width exponent es → IsAlike ops bits_of width (exponent + 1) es
      unfolding dot_of
      alike_still empty alike =
          alike_more ops bits_of width width numbered exponent b (coefficient ops z m) es bits
          (constant_of_flat ops ring width field a u es differ unit (coefficient ops z m)
          (λ k low. sym (at k (omega arith)) ∙ zeros cs empty shortest k (omega arith))
          (λ k last. (let here : k ≡ m = omega arith in sym (at k (omega arith)) ∙ ap (coefficient ops z) here)))
          alike
        where
          at : (k : ℕ) → k < length es → coefficient ops z k ≡ weighted ops (λ e. ops.times (a e) (u e)) k es
          at k lt = ap (λ s. coefficient ops s k) (traced b bits) ∙ sequence_of-at ops ring (λ e. ops.times (a e) (u e)) es (length es) k lt

          long : length z ≡ m + 1
          long = ap length (traced b bits) ∙ length-sequence_of ops ring (λ e. ops.times (a e) (u e)) es 0 (length es) ∙ size

          zeros : (cs : List A) → length cs ≡ 0 → IsShortest ops cs (take m z) → (k : ℕ) → k < m → coefficient ops z k ≡ ops.zero
          zeros [] empty shortest k lt =
              (let here : k ≡ k + 0 = omega arith in ap (coefficient ops z) here)
              ∙ sym (get_or-take m z (k + 0) ops.zero (omega arith))
              ∙ shortest.holds.each k (omega (arith, length-take-le m z (omega (arith, long))))
          zeros (c ∷ cs) empty shortest k lt = absurd (omega arith)

      -- ---- which half it is of

      -- the discrepancy at the last item
      abbrev pub last_discrepancy : A
      last_discrepancy = dot_of ops (reverse (ops.one ∷ cs)) (drop (m - length cs) z)

      within : length cs ≤ m
      within = omega (arith, halves_some.0, halves_some.1, parts-length has_one es, size)

      is_last : last_discrepancy ≡ dot_of ops (reverse (ops.one ∷ cs)) (drop (m - length cs) (sequence_of ops u part 0 (m + 1)))
      is_last = ap (λ s. dot_of ops (reverse (ops.one ∷ cs)) (drop (m - length cs) s)) whole

      pub half_of_zero : last_discrepancy ≡ ops.zero → reverse (ops.one ∷ cs) ≡ with_roots ops part
      half_of_zero e = (told_zero ops ring width field a u es differ unit has_one told m size cs (m - length cs) of_part (omega (arith, within)) (sym is_last ∙ e)).1

      pub half_of_one : last_discrepancy ≡ ops.one → reverse (ops.one ∷ cs) ≡ with_roots ops others
      half_of_one e = (told_one ops ring width field a u es differ unit has_one told m size cs (m - length cs) of_part (omega (arith, within)) (sym is_last ∙ e)).1

      pub half_of_all : last_discrepancy ≢ ops.zero → last_discrepancy ≢ ops.one → (ds : List A) → IsShortest ops ds z → (2 * length part ≡ m + 1) × (reverse (ops.one ∷ ds) ≡ with_roots ops part)
      half_of_all some other ds all =
          let found : (2 * length part ≡ m + 1) × (length ds ≡ length part) × (reverse (ops.one ∷ ds) ≡ with_roots ops part) =
          told_even ops ring width field a u es differ unit has_one told m size cs (m - length cs) of_part (omega (arith, within))
          (λ e. some (is_last ∙ e)) (λ e. other (is_last ∙ e)) ds (subst (IsShortest ops ds) whole all) in
          (found.0, found.2)

  -- ---- down to the halves

  -- one half, with the correlations of the other half's polynomial over its sequences
  pub half_part : (first : ℕ) (u : A → A) (es f g h : List A) (sequences correlations : List (List A)) (q : A → Bool) → IsPart ops bits_of width first u es f sequences
      → g ≡ with_roots ops (filter q es) → h ≡ with_roots ops (filter (λ e. not (q e)) es) → AreCorrelations ops h (length (filter q es)) sequences correlations
      → IsPart ops bits_of width first (λ e. ops.times (u e) (value_at ops h e)) (filter q es) g correlations
  half_part first u es f g h sequences correlations q part g_is h_is made = record {
    distinct = part-differ q es part.distinct;
    locator_is = g_is;
    unit = unit_of_part ops ring q es h u monic roots part.unit;
    traces = λ i lt b bits.
        (let inside : i < length sequences = omega (arith, made.size) in
        sequence_of_part ops ring q es h (λ e. trace_of ops width (ops.times b e)) u (get_or correlations i []) monic roots
        (subst (λ s. IsCorrelation ops h s (length (filter q es)) (get_or correlations i [])) (part.traces i inside b bits) (made.each i inside)));
  }
    where
      monic : IsMonic ops (length (filter (λ e. not (q e)) es)) h
      monic = subst (IsMonic ops (length (filter (λ e. not (q e)) es))) (sym h_is) (with_roots-monic ops ring (filter (λ e. not (q e)) es))

      roots : All (IsRoot ops h) (filter (λ e. not (q e)) es)
      roots = subst (λ y. All (IsRoot ops y) (filter (λ e. not (q e)) es)) (sym h_is) (with_roots-root ops ring (filter (λ e. not (q e)) es))

  -- the other half, by the same rule
  pub other_part : (first : ℕ) (u : A → A) (es f g h : List A) (sequences correlations : List (List A)) (q : A → Bool) → IsPart ops bits_of width first u es f sequences
      → g ≡ with_roots ops (filter q es) → h ≡ with_roots ops (filter (λ e. not (q e)) es) → AreCorrelations ops g (length (filter (λ e. not (q e)) es)) sequences correlations
      → IsPart ops bits_of width first (λ e. ops.times (u e) (value_at ops g e)) (filter (λ e. not (q e)) es) h correlations
  other_part first u es f g h sequences correlations q part g_is h_is made =
      half_part first u es f h g sequences correlations (λ e. not (q e)) part h_is (g_is ∙ ap (with_roots ops) (sym twice)) made
    where
      back : (c : Bool) → not (not c) ≡ c
      back true = refl
      back false = refl

      twice : filter (λ e. not (not (q e))) es ≡ filter q es
      twice = filter_agree (λ e. not (not (q e))) q (λ e. back (q e)) es
