-- What a walk over ascending elements has told.
use Rattle.std.proofs.Common.{◌≡◌, ◌↔◌, ℕ, ◌+◌, ◌<◌, ◌≤◌, Bool, true, false, Ordering, List, ◌∷◌, length, get_or, map, drop, refl, sym, ap, subst, ◌∙◌, add-one, arith}
use Rattle.std.specs.Prelude.{Option, Some}
use Rattle.std.specs.Ordering.{nat_cmp, is_le, is_some_and}
use Rattle.std.proofs.lemmas.Bool.Decides.{nat_tests}
use Rattle.std.proofs.Math.Seq.{drop-cons}
use Rattle.std.proofs.Math.ListN.{drop_of_length-le}
use Rattle.sketch_rules.specs.Answers.{IsAscending}

le_numbers : (r : Bool) (x y : ℕ) → r ≡ is_le (nat_cmp x y) → r ≡ true → x ≤ y
le_numbers r x y is passed = grind (arith, nat_tests)

gt_numbers : (r : Bool) (x y : ℕ) → r ≡ is_le (nat_cmp x y) → r ≡ false → y < x
gt_numbers r x y is failed = grind (arith, nat_tests)

-- the test a <= b of elements that stand in the order of their bits
module _ {A : Type 0} (bits_of : A → ℕ) (partial_order : A → A → Option Ordering) (order : A → A → Ordering)
    (matches : (a b : A) → partial_order a b ≡ Some (order a b)) (ordered : (a b : A) → order a b ≡ nat_cmp (bits_of a) (bits_of b)) (r : Bool) (a b : A) (is : r ≡ is_some_and is_le (partial_order a b)) where
  of_bits : r ≡ is_le (nat_cmp (bits_of a) (bits_of b))
  of_bits = is ∙ ap (is_some_and is_le) (matches a b ∙ ap Some (ordered a b))

  pub le_by_bits : r ≡ true → bits_of a ≤ bits_of b
  le_by_bits passed = le_numbers r (bits_of a) (bits_of b) of_bits passed

  pub gt_by_bits : r ≡ false → bits_of b < bits_of a
  gt_by_bits failed = gt_numbers r (bits_of a) (bits_of b) of_bits failed

-- W: the elements of a list rise, which is told of those from an index on
module _ {A : Type 0} (bits_of : A → ℕ) (W : Type 0) (low high : ℕ) where
  -- the elements from index i on
  from_index : (es : List A) (i : ℕ) (e : A) → i < length es → e ≡ get_or es i e → map bits_of (drop i es) ≡ bits_of e ∷ map bits_of (drop (i + 1) es)
  from_index es i e lt is = ap (map bits_of) (drop-cons es i e lt) ∙ rw (← is, add-one i) refl

  -- the element at index i is above those before it
  pub rises_on : (es : List A) (i : ℕ) (e : A) → i < length es → e ≡ get_or es i e → low < bits_of e → bits_of e < high
      → (W ↔ IsAscending (low + 1) high (map bits_of (drop i es))) → W ↔ IsAscending (bits_of e + 1) high (map bits_of (drop (i + 1) es))
  unfolding IsAscending
  rises_on es i e lt is above below whole =
      let now : W ↔ IsAscending (low + 1) high (bits_of e ∷ map bits_of (drop (i + 1) es)) = subst (λ ns. W ↔ IsAscending (low + 1) high ns) (from_index es i e lt is) whole in
      (λ w. (now.0 w).2, λ rest. now.1 (omega arith, below, rest))

  -- it is not
  pub rises_no_more : (es : List A) (i : ℕ) (e : A) → i < length es → e ≡ get_or es i e → bits_of e ≤ low
      → (W ↔ IsAscending (low + 1) high (map bits_of (drop i es))) → ¬ W
  unfolding IsAscending
  rises_no_more es i e lt is below whole w =
      let now : IsAscending (low + 1) high (bits_of e ∷ map bits_of (drop (i + 1) es)) = subst (IsAscending (low + 1) high) (from_index es i e lt is) (whole.0 w) in
      omega (arith, now.0)

  -- none is left
  pub rises_to_the_end : (es : List A) (i : ℕ) → length es ≤ i → (W ↔ IsAscending (low + 1) high (map bits_of (drop i es))) → W
  unfolding IsAscending
  rises_to_the_end es i past whole =
      whole.1 (subst (λ ds. IsAscending (low + 1) high (map bits_of ds)) (sym (drop_of_length-le es {i = i} past)) tt)
