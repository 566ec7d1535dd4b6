-- Multiples added to a list, and sums of products, item by item.
use Rattle.std.proofs.Common.{◌≡◌, ℕ, suc, ◌+◌, ◌<◌, ◌≤◌, List, [], ◌∷◌, ◌++◌, length, get_or, take, drop, set, refl, sym, ap, ◌∙◌, append_assoc, add-one, arith}
use Rattle.std.proofs.Math.Seq.{drop-cons}
use Rattle.std.proofs.Math.ListN.{drop_of_length-le}
use Rattle.std.proofs.lemmas.List.{take_more_set, drop-set-lt, take-append-drop}
use Rattle.field_rules.specs.Ops.{Ops, IsRing}
use Rattle.field_rules.specs.Fields.{with_multiple, dot_of}

-- a list from the index i on, where x is the item there
from_index : {A : Type 0} (xs : List A) (i : ℕ) (x : A) → i < length xs → x ≡ get_or xs i x → drop i xs ≡ x ∷ drop (suc i) xs
from_index xs i x lt is = drop-cons xs i x lt ∙ ap (λ z. z ∷ drop (suc i) xs) (sym is)

module _ {A : Type 0} (ops : Ops A) where
  -- the item x at index i has its multiple, and the rest are still to come
  pub with_multiple-more : (k x y : A) (i : ℕ) (acc xs : List A) → i < length acc → i < length xs → x ≡ get_or acc i x → y ≡ get_or xs i y
      → take (i + 1) (set acc i (ops.plus x (ops.times k y))) ++ with_multiple ops (drop (i + 1) (set acc i (ops.plus x (ops.times k y)))) k (drop (i + 1) xs)
      ≡ take i acc ++ with_multiple ops (drop i acc) k (drop i xs)
  unfolding with_multiple
  with_multiple-more k x y i acc xs lt within is_x is_y =
      let v : A = ops.plus x (ops.times k y) in
      let done : take (i + 1) (set acc i v) ≡ take i acc ++ v ∷ [] = take_more_set acc i v lt in
      let below : i < i + 1 = omega arith in
      let kept : drop (i + 1) (set acc i v) ≡ drop (i + 1) acc = drop-set-lt (i + 1) acc i v below in
      rw (done, kept, from_index acc i x lt is_x, from_index xs i y within is_y, add-one i, append_assoc) refl

  -- past the last index nothing is left to add
  pub with_multiple-done : (k : A) (i : ℕ) (acc xs : List A) → length acc ≤ i → take i acc ++ with_multiple ops (drop i acc) k xs ≡ acc
  unfolding with_multiple
  with_multiple-done k i acc xs le =
      let empty : drop i acc ≡ [] = drop_of_length-le acc {i = i} le in
      rw empty (rw empty at (take-append-drop i acc))

  -- one product more
  pub dot_of-more : IsRing ops → (s x y : A) (i : ℕ) (xs ys : List A) → i < length xs → i < length ys → x ≡ get_or xs i x → y ≡ get_or ys i y
      → ops.plus (ops.plus s (ops.times x y)) (dot_of ops (drop (i + 1) xs) (drop (i + 1) ys)) ≡ ops.plus s (dot_of ops (drop i xs) (drop i ys))
  unfolding dot_of
  dot_of-more ring s x y i xs ys lt within is_x is_y =
      rw (from_index xs i x lt is_x, from_index ys i y within is_y, add-one i) (ring.plus_assoc s (ops.times x y) (dot_of ops (drop (suc i) xs) (drop (suc i) ys)))

  -- past the last index no product is left
  pub dot_of-done : IsRing ops → (s : A) (i : ℕ) (xs ys : List A) → length xs ≤ i → ops.plus s (dot_of ops (drop i xs) ys) ≡ s
  unfolding dot_of
  dot_of-done ring s i xs ys le =
      let empty : drop i xs ≡ [] = drop_of_length-le xs {i = i} le in
      rw empty (ring.plus_zero s)
