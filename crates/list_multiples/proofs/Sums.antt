-- Sums of lists, and of multiples of one list.
use Rattle.std.proofs.Common.{◌≡◌, ℕ, suc, ◌+◌, ◌<◌, ◌≤◌, List, [], ◌∷◌, ◌++◌, length, map, get_or, take, drop, set, replicate, refl, sym, ap, ap₂, ◌∙◌, append_assoc, add-one, fold, arith}
use Rattle.std.proofs.Math.Seq.{drop-cons}
use Rattle.std.proofs.Math.ListN.{drop_of_length-le}
use Rattle.std.proofs.lemmas.List.{take_more_set, drop-set-lt, take-append-drop}
use Rattle.field_rules.specs.Ops.{Ops, IsRing}
use Rattle.field_rules.specs.Fields.{with_multiple}
use Rattle.field_rules.specs.Lists.{sums_of_both}
use Rattle.field_laws.proofs.RingFacts.{zero_plus, zero_times, one_times, distributes_left}

-- items that stand at the index i in lists of n items each
pub data AreAt {A : Type 0} (i n : ℕ) : List A → List (List A) → Type 0 where
  None : AreAt i n [] []
  More : {x : A} {xs items : List A} {others : List (List A)} → length xs ≡ n → x ≡ get_or xs i x → AreAt i n items others → AreAt i n (x ∷ items) (xs ∷ others)

from_index : {A : Type 0} (i n : ℕ) (x : A) (xs : List A) → i < n → length xs ≡ n → x ≡ get_or xs i x → drop i xs ≡ x ∷ drop (suc i) xs
from_index i n x xs lt size is = drop-cons xs i x (omega (arith, lt, size)) ∙ ap (λ z. z ∷ drop (suc i) xs) (sym is)

module _ {A : Type 0} (ops : Ops A) where
  -- the sums of the items from the index i on of a list and of others
  abbrev pub sums_from : ℕ → List A → List (List A) → List A
  sums_from i xs others = fold (sums_of_both ops) (drop i xs) (map (drop i) others)

  -- the sums at an index, and those behind it
  sums-cons : (i n : ℕ) (x : A) (xs items : List A) (others : List (List A)) → i < n → AreAt i n items others
      → fold (sums_of_both ops) (x ∷ xs) (map (drop i) others) ≡ fold ops.plus x items ∷ fold (sums_of_both ops) xs (map (drop (suc i)) others)
  unfolding sums_of_both
  sums-cons i n x xs [] [] lt None = refl
  sums-cons i n x xs [] (ys ∷ others) lt at = elim at [ ]
  sums-cons i n x xs (y ∷ items) [] lt at = elim at [ ]
  sums-cons i n x xs (y ∷ items) (ys ∷ others) lt (More size is at) =
      ap (λ zs. fold (sums_of_both ops) (sums_of_both ops (x ∷ xs) zs) (map (drop i) others)) (from_index i n y ys lt size is)
      ∙ sums-cons i n (ops.plus x y) (sums_of_both ops xs (drop (suc i) ys)) items others lt at

  -- the item at index i is done, and the rest are still to come
  pub sums_more : (i n : ℕ) (x : A) (xs items : List A) (others : List (List A)) → i < n → AreAt i n (x ∷ items) (xs ∷ others)
      → take (i + 1) (set xs i (fold ops.plus x items)) ++ sums_from (i + 1) (set xs i (fold ops.plus x items)) others ≡ take i xs ++ sums_from i xs others
  sums_more i n x xs items others lt (More size is at) =
      let v : A = fold ops.plus x items in
      let done : take (i + 1) (set xs i v) ≡ take i xs ++ v ∷ [] = take_more_set xs i v (omega (arith, lt, size)) in
      let later : i < i + 1 = omega arith in
      let kept : drop (i + 1) (set xs i v) ≡ drop (i + 1) xs = drop-set-lt (i + 1) xs i v later in
      rw (done, kept, from_index i n x xs lt size is, sums-cons i n x (drop (suc i) xs) items others lt at, add-one i, append_assoc) refl

  none_summed : (others : List (List A)) → fold (sums_of_both ops) [] others ≡ []
  unfolding sums_of_both
  none_summed [] = refl
  none_summed (ys ∷ others) = none_summed others

  -- past the last index nothing is left to add
  pub sums_done : (i : ℕ) (xs : List A) (others : List (List A)) {sums : List A} → length xs ≤ i → take i xs ++ sums_from i xs others ≡ sums → xs ≡ sums
  sums_done i xs others le rest =
      let empty : drop i xs ≡ [] = drop_of_length-le xs {i = i} le in
      let left : sums_from i xs others ≡ drop i xs = ap (λ zs. fold (sums_of_both ops) zs (map (drop i) others)) empty ∙ none_summed (map (drop i) others) ∙ sym empty in
      sym (ap (λ zs. take i xs ++ zs) left ∙ take-append-drop i xs) ∙ rest

  pub length-both : (xs ys : List A) → length xs ≡ length ys → length (sums_of_both ops xs ys) ≡ length xs
  unfolding sums_of_both
  length-both [] ys same = refl
  length-both (x ∷ xs) [] same = sym same
  length-both (x ∷ xs) (y ∷ ys) same = ap suc (length-both xs ys (omega arith))

module _ {A : Type 0} (ops : Ops A) (ring : IsRing ops) where
  -- the sums of two multiples of a list
  pub multiples_added : (a b : A) (xs : List A) → sums_of_both ops (map (ops.times a) xs) (map (ops.times b) xs) ≡ map (ops.times (ops.plus a b)) xs
  unfolding sums_of_both
  multiples_added a b [] = refl
  multiples_added a b (x ∷ xs) = ap₂ (λ y ys. y ∷ ys) (sym (distributes_left ops ring a b x)) (multiples_added a b xs)

  -- a multiple, added to zeros
  pub multiple_of_zeros : (k : A) (xs : List A) → with_multiple ops (replicate (length xs) ops.zero) k xs ≡ map (ops.times k) xs
  unfolding with_multiple
  multiple_of_zeros k [] = refl
  multiple_of_zeros k (x ∷ xs) = ap₂ (λ y ys. y ∷ ys) (zero_plus ops ring (ops.times k x)) (multiple_of_zeros k xs)

  -- the multiple by 0
  pub zeros_are : (xs : List A) → replicate (length xs) ops.zero ≡ map (ops.times ops.zero) xs
  zeros_are [] = refl
  zeros_are (x ∷ xs) = ap₂ (λ y ys. y ∷ ys) (sym (zero_times ops ring x)) (zeros_are xs)

  -- and that by 1
  pub once : (xs : List A) → map (ops.times ops.one) xs ≡ xs
  once [] = refl
  once (x ∷ xs) = ap₂ (λ y ys. y ∷ ys) (one_times ops ring x) (once xs)

  -- 0 times a list, added
  pub none_added : (acc xs : List A) → with_multiple ops acc ops.zero xs ≡ acc
  unfolding with_multiple
  none_added [] xs = refl
  none_added (a ∷ acc) [] = refl
  none_added (a ∷ acc) (x ∷ xs) = ap₂ (λ y ys. y ∷ ys) (ap (ops.plus a) (zero_times ops ring x) ∙ ring.plus_zero a) (none_added acc xs)

  -- a multiple more is added
  pub multiple_added : (a b : A) (acc xs : List A) → length acc ≤ length xs
      → sums_of_both ops (with_multiple ops acc a xs) (take (length acc) (map (ops.times b) xs)) ≡ with_multiple ops acc (ops.plus a b) xs
  unfolding sums_of_both with_multiple
  multiple_added a b [] xs le = refl
  multiple_added a b (y ∷ acc) [] le = absurd (omega arith)
  multiple_added a b (y ∷ acc) (x ∷ xs) le =
      ap₂ (λ z zs. z ∷ zs) (ring.plus_assoc y (ops.times a x) (ops.times b x) ∙ ap (ops.plus y) (sym (distributes_left ops ring a b x))) (multiple_added a b acc xs (omega arith))
