-- Sums of two lists, item by item.
use Rattle.std.proofs.Common.{◌≡◌, ℕ, ◌+◌, ◌<◌, ◌≤◌, List, [], ◌∷◌, ◌++◌, length, map, get_or, take, drop, set, refl, ap, ◌∙◌, append_assoc, add-one, arith}
use Rattle.std.proofs.Math.Seq.{drop-cons, take-append_seam}
use Rattle.std.proofs.Math.ListN.{drop_of_length-le}
use Rattle.std.proofs.lemmas.List.{take_more_set, drop-set-lt, take-append-drop}
use Rattle.field_rules.specs.Ops.{Ops}
use Rattle.field_rules.specs.Numbered.{IsNumbered}
use Rattle.field_rules.specs.Lists.{AreDistinct, sums_of_both}
use Rattle.sketch_rules.specs.Sets.{difference}
use Rattle.sketch_rules.specs.Sketches.{sketch_sum, sketch_at}
use Rattle.sketch_laws.proofs.Merging.{sketch_sum-sketches}

-- what a vector holds once all of its items were written
pub written_back : {A : Type 0} (n : ℕ) (new rest : List A) → n ≡ length new → take n (new ++ rest) ≡ new
written_back n new rest e = rw e (take-append_seam new rest)

module _ {A : Type 0} (ops : Ops A) where
  -- the item at index i is done, and the rest are still to come
  pub both_more : (x y : A) (i : ℕ) (xs ys : List A) → i < length xs → i < length ys → y ≡ get_or ys i y
      → take (i + 1) (set xs i (ops.plus (get_or xs i x) y)) ++ sums_of_both ops (drop (i + 1) (set xs i (ops.plus (get_or xs i x) y))) (drop (i + 1) ys)
      ≡ take i xs ++ sums_of_both ops (drop i xs) (drop i ys)
  unfolding sums_of_both
  both_more x y i xs ys lt below is =
      let v : A = ops.plus (get_or xs i x) y in
      let done : take (i + 1) (set xs i v) ≡ take i xs ++ v ∷ [] = take_more_set xs i v lt in
      let later : i < i + 1 = omega arith in
      let kept : drop (i + 1) (set xs i v) ≡ drop (i + 1) xs = drop-set-lt (i + 1) xs i v later in
      rw (done, kept, drop-cons xs i x lt, drop-cons ys i y below, ← is, add-one i, append_assoc) refl

  -- past the last index nothing is left to add
  pub both_done : (i : ℕ) (xs ys : List A) → length xs ≤ i → take i xs ++ sums_of_both ops (drop i xs) ys ≡ xs
  unfolding sums_of_both
  both_done i xs ys le =
      let empty : drop i xs ≡ [] = drop_of_length-le xs {i = i} le in
      rw empty (rw empty at (take-append-drop i xs))

  -- the bits of the sums are the sums of the bits
  pub both-numbers : (bits_of : A → ℕ) (width : ℕ) → IsNumbered ops bits_of width → (xs ys : List A) → map bits_of (sums_of_both ops xs ys) ≡ sketch_sum (map bits_of xs) (map bits_of ys)
  unfolding sums_of_both
  both-numbers bits_of width numbered [] ys = refl
  both-numbers bits_of width numbered (x ∷ xs) [] = refl
  both-numbers bits_of width numbered (x ∷ xs) (y ∷ ys) = rw (numbered.plus_bits x y, both-numbers bits_of width numbered xs ys) refl

-- where both lists are the sketches of sets, their sum is the sketch of the difference
pub merged_difference : (width c : ℕ) (ms ns xs ys : List ℕ) → AreDistinct xs → AreDistinct ys → ms ≡ sketch_at width xs c → ns ≡ sketch_at width ys c → sketch_sum ms ns ≡ sketch_at width (difference xs ys) c
merged_difference width c ms ns xs ys h k first second =
    ap (λ z. sketch_sum z ns) first ∙ ap (sketch_sum (sketch_at width xs c)) second ∙ sketch_sum-sketches width xs ys c h k
