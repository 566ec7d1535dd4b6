-- Odd powers of an element, added to a list item by item.
use Rattle.std.proofs.Common.{◌≡◌, ℕ, suc, ◌+◌, ◌*◌, ◌<◌, ◌≤◌, List, ◌∷◌, ◌++◌, [], length, get_or, take, drop, set, refl, sym, ◌∙◌, append_assoc, add-one, arith}
use Rattle.std.proofs.Math.Seq.{drop-cons}
use Rattle.std.proofs.lemmas.List.{take_more_set, drop-set-lt, take-append-drop}
use Rattle.std.proofs.Math.ListN.{drop_of_length-le}
use Rattle.field_rules.specs.Ops.{Ops, IsRing, power, with_odd_powers}

module _ {A : Type 0} (ops : Ops A) where
  -- the first power
  pub power_one : IsRing ops → (e : A) → power ops e 1 ≡ e
  unfolding power
  power_one ring e = ring.times_comm ops.one e ∙ ring.times_one e

  -- the next odd power is the last one times the square
  pub odd_power_next : IsRing ops → (e p square : A) (i : ℕ) → p ≡ power ops e (2 * i + 1) → square ≡ ops.times e e
      → ops.times p square ≡ power ops e (2 * (i + 1) + 1)
  unfolding power
  odd_power_next ring e p square i is squared =
      let index : 2 * (i + 1) + 1 ≡ suc (suc (2 * i + 1)) = omega arith in
      rw (index, is, squared) (sym (ring.times_assoc (power ops e (2 * i + 1)) e e))

  -- the item at index i is done, and the rest are still to come
  pub odd_powers_more : (e p x : A) (i : ℕ) (xs : List A) → i < length xs → p ≡ power ops e (2 * i + 1)
      → take (i + 1) (set xs i (ops.plus (get_or xs i x) p)) ++ with_odd_powers ops e (i + 1) (drop (i + 1) (set xs i (ops.plus (get_or xs i x) p)))
      ≡ take i xs ++ with_odd_powers ops e i (drop i xs)
  unfolding with_odd_powers
  odd_powers_more e p x i xs lt is =
      let v : A = ops.plus (get_or xs i x) p in
      let done : take (i + 1) (set xs i v) ≡ take i xs ++ v ∷ [] = take_more_set xs i v lt in
      let below : i < i + 1 = omega arith in
      let kept : drop (i + 1) (set xs i v) ≡ drop (i + 1) xs = drop-set-lt (i + 1) xs i v below in
      rw (done, kept, drop-cons xs i x lt, add-one i, append_assoc, is) refl

  -- past the last index nothing is left to add
  pub odd_powers_done : (e : A) (i : ℕ) (xs : List A) → length xs ≤ i → take i xs ++ with_odd_powers ops e i (drop i xs) ≡ xs
  unfolding with_odd_powers
  odd_powers_done e i xs le =
      let empty : drop i xs ≡ [] = drop_of_length-le xs {i = i} le in
      rw empty (rw empty at (take-append-drop i xs))
