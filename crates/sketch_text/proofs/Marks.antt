-- The indices of numbers among the sorted ones, and the marks there.
use Rattle.std.proofs.Common.{◌≡◌, ◌≢◌, ℕ, ◌+◌, ◌<◌, ◌≤◌, Bool, true, false, List, [], ◌∷◌, length, take, get_or, sym, ap, ◌∙◌, arith, subst, ⊎_elim, take_all}
use Rattle.std.proofs.Math.ListN.{set, length-set, length-take}
use Rattle.std.proofs.lemmas.List.{get_or_default, get_or-set_same, get_or-set_other, get_or-take, take_more}
use Rattle.std.proofs.lemmas.List.Elements.{Contains-append_left, Contains-append_right}
use Rattle.std.proofs.lemmas.List.Quantifiers.{all_pairs_push}
use Rattle.std.proofs.lemmas.Bool.{cases_eq, false≢true, ltb-true, ltb-false}
use Rattle.std.specs.Prelude.{nat_lt}
use Rattle.std.specs.List.{Contains}
use Rattle.std.specs.List.Sorted.{IsNonDecreasing, IsPartitionPoint}
use Rattle.field_rules.specs.Lists.{AreDistinct}
use Rattle.sketch_text.specs.Repeats.{HasRepeats, IsFirstRepeat, IsIndexOf}

-- the index up to which the numbers are smaller is that of a number which is there
index_from : (xs : List ℕ) (x index : ℕ) → IsNonDecreasing xs → Contains xs x → IsPartitionPoint (λ y. nat_lt y x ≡ true) (λ y. nat_lt y x ≡ false) xs index → IsIndexOf xs x index
index_from xs x index rising (k, k_in, is) parted =
    let behind : index ≤ k = (let not_before : k < index → ⊥ = λ before. (let below = ltb-true _ _ (parted.0 k x (omega arith) before) in omega (arith, is)) in omega arith) in
    let high = rising index k x behind k_in in
    let low = ltb-false _ _ (parted.1 index x (omega arith) (omega arith)) in
    record {
      within = omega arith;
      here = get_or_default xs index 0 x (omega arith) ∙ (let same : get_or xs index x ≡ x = omega (arith, is) in same);
      smaller = λ j d _ before. ltb-true _ _ (parted.0 j d (omega arith) before);
    }

-- the number at the index up to which the numbers are smaller
pub index_found : (xs : List ℕ) (x index : ℕ) → IsNonDecreasing xs → IsPartitionPoint (λ y. nat_lt y x ≡ true) (λ y. nat_lt y x ≡ false) xs index → index < length xs → get_or xs index 0 ≡ x → IsIndexOf xs x index
index_found xs x index rising parted within is = index_from xs x index rising (index, within, get_or_default xs index x 0 within ∙ is) parted

-- where another number stands there, or none
pub index_missed : (xs : List ℕ) (x index : ℕ) → IsNonDecreasing xs → IsPartitionPoint (λ y. nat_lt y x ≡ true) (λ y. nat_lt y x ≡ false) xs index → (index < length xs → get_or xs index 0 ≢ x) → ¬ Contains xs x
index_missed xs x index rising parted other there = let at = index_from xs x index rising there parted in other at.within at.here

-- a number has one index
pub one_index : (xs : List ℕ) (x a b : ℕ) → IsIndexOf xs x a → IsIndexOf xs x b → a ≡ b
one_index xs x a b at_a at_b =
    let not_before : a < b → ⊥ = λ before. (let below = at_b.smaller a 0 (omega arith) before in omega (arith, at_a.here)) in
    let not_behind : b < a → ⊥ = λ before. (let below = at_a.smaller b 0 (omega arith) before in omega (arith, at_b.here)) in
    omega arith

-- the marks after the first i numbers of xs, none of which repeats an earlier one: those at their indices among the sorted
pub record Marks (xs sorted : List ℕ) (i : ℕ) (marks : List Bool) : Type 0 where
  pub sized : length marks ≡ length sorted
  pub sound : (p : ℕ) → p < length sorted → get_or marks p false ≡ true → Contains (take i xs) (get_or sorted p 0)
  pub full : (k p : ℕ) → k < i → IsIndexOf sorted (get_or xs k 0) p → get_or marks p false ≡ true
  pub fresh : AreDistinct (take i xs)

more_of : (xs : List ℕ) (i y : ℕ) → i < length xs → Contains (take i xs) y → Contains (take (i + 1) xs) y
more_of xs i y within there = rw (take_more xs i 0 within) (Contains-append_left (take i xs) (get_or xs i 0 ∷ []) y there)

last_of : (xs : List ℕ) (i y : ℕ) → i < length xs → get_or xs i 0 ≡ y → Contains (take (i + 1) xs) y
last_of xs i y within is = rw (take_more xs i 0 within) (Contains-append_right (take i xs) (get_or xs i 0 ∷ []) y (0, omega arith, is))

module _ (xs sorted : List ℕ) (i index : ℕ) (marks : List Bool) (known : Marks xs sorted i marks) (within : i < length xs) (there : IsIndexOf sorted (get_or xs i 0) index) where
  -- no number before it is equal
  new_one : get_or marks index false ≡ false → (k d : ℕ) → k < length (take i xs) → get_or (take i xs) k d ≢ get_or xs i 0
  new_one unmarked k d k_in same =
      let before : k < i = omega (arith, length-take i xs) in
      let at : get_or xs k 0 ≡ get_or xs i 0 = get_or_default xs k 0 d (omega arith) ∙ sym (get_or-take i xs k d before) ∙ same in
      false≢true (sym unmarked ∙ known.full k index before (subst (λ (x : ℕ). IsIndexOf sorted x index) (sym at) there))

  -- the number at i marks its index
  pub marks_more : get_or marks index false ≡ false → Marks xs sorted (i + 1) (set marks index true)
  marks_more unmarked = record {
    sized = length-set marks index true ∙ known.sized;
    sound = λ p p_in marked. ⊎_elim
        (λ (is : p ≡ index). last_of xs i (get_or sorted p 0) within (sym there.here ∙ ap (λ q. get_or sorted q 0) (sym is)))
        (λ (other : p ≢ index). more_of xs i (get_or sorted p 0) within (known.sound p p_in (sym (get_or-set_other marks index p true false other) ∙ marked)))
        (cases_eq p index);
    full = λ k p before at. ⊎_elim
        (λ (is : p ≡ index). ap (λ q. get_or (set marks index true) q false) is ∙ get_or-set_same marks index true false (omega (arith, known.sized, there.within)))
        (λ (other : p ≢ index). get_or-set_other marks index p true false other ∙ known.full k p (let not_here : k ≡ i → ⊥ = λ here. other (one_index sorted (get_or xs i 0) p index (subst (λ (n : ℕ). IsIndexOf sorted (get_or xs n 0) p) here at) there) in omega arith) at)
        (cases_eq p index);
    fresh = rw (take_more xs i 0 within) (all_pairs_push (λ a b. a ≢ b) (take i xs) (get_or xs i 0) known.fresh (new_one unmarked));
  }

  -- where the index is marked
  pub marks_hit : get_or marks index false ≡ true → IsFirstRepeat xs i
  marks_hit marked = record {
    within = within;
    fresh = known.fresh;
    again = subst (λ (x : ℕ). Contains (take i xs) x) there.here (known.sound index there.within marked);
  }

-- a number that isn't among the sorted ones, which have all that xs has twice
pub marks_pass : (xs sorted : List ℕ) (i : ℕ) (marks : List Bool) → Marks xs sorted i marks → i < length xs → HasRepeats sorted xs → ¬ Contains sorted (get_or xs i 0) → Marks xs sorted (i + 1) marks
marks_pass xs sorted i marks known within repeats missing = record {
  sized = known.sized;
  sound = λ p p_in marked. more_of xs i (get_or sorted p 0) within (known.sound p p_in marked);
  full = λ k p before at. ⊎_elim
      (λ (here : k ≡ i). absurd (missing (p, at.within, get_or_default sorted p (get_or xs i 0) 0 at.within ∙ at.here ∙ ap (λ n. get_or xs n 0) here)))
      (λ (other : k ≢ i). known.full k p (omega arith) at)
      (cases_eq k i);
  fresh = rw (take_more xs i 0 within) (all_pairs_push (λ a b. a ≢ b) (take i xs) (get_or xs i 0) known.fresh (λ k d k_in same.
      let before : k < i = omega (arith, length-take i xs) in
      let at : get_or xs k 0 ≡ get_or xs i 0 = get_or_default xs k 0 d (omega arith) ∙ sym (get_or-take i xs k d before) ∙ same in
      missing (subst (λ (x : ℕ). Contains sorted x) at (repeats k i 0 before within at))));
}

-- where no index was marked before
pub marks_end : (xs sorted : List ℕ) (i : ℕ) (marks : List Bool) → Marks xs sorted i marks → length xs ≤ i → AreDistinct xs
marks_end xs sorted i marks known all = subst (λ (ys : List ℕ). AreDistinct ys) (take_all i xs all) known.fresh
