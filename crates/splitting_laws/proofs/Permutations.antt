-- A set has one ascending order.
use Rattle.std.proofs.Common.{◌≡◌, ◌⊎◌, inl, inr, ℕ, suc, ◌+◌, ◌<◌, ◌≤◌, Bool, true, false, cond, List, [], ◌∷◌, get_or, refl, sym, ap, ◌∙◌, arith}
use Rattle.std.specs.Prelude.{nat_eq}
use Rattle.std.specs.List.{All, count_by}
use Rattle.std.specs.List.Sorted.{IsPermutation, IsNonDecreasingBy}
use Rattle.std.proofs.lemmas.Bool.{eq-eqb, ne_eqb}
use Rattle.std.proofs.lemmas.List.Sums.{sum_by-cons}
use Rattle.std.proofs.lemmas.List.Sorted.{sum_by-IsPermutation}

module _ {A : Type 0} (number : A → ℕ) (same : (a b : A) → number a ≡ number b → a ≡ b) where
  -- whether it has this number
  abbrev has : ℕ → A → Bool
  has v x = nat_eq (number x) v

  -- one where a test passes, and none where it fails
  abbrev once : Bool → ℕ
  once b = cond b 1 0

  count_next : (v : ℕ) (x : A) (xs : List A) → count_by (has v) (x ∷ xs) ≡ once (has v x) + count_by (has v) xs
  count_next v x xs = sum_by-cons (λ z. once (has v z)) x xs

  -- no element has a number below all of theirs
  none_below : (v : ℕ) (xs : List A) → All (λ x. v < number x) xs → count_by (has v) xs ≡ 0
  none_below v [] above = refl
  none_below v (x ∷ xs) above =
      let higher : v < number x = above 0 x (omega arith) in
      let other : has v x ≡ false = ne_eqb (number x) v (λ e. absurd (omega arith)) in
      let here : once (has v x) ≡ 0 = ap once other in
      omega (arith, here, count_next v x xs, none_below v xs (λ i d lt. above (suc i) d (omega arith)))

  -- the first element of a list has its number
  one_first : (x : A) (xs : List A) → count_by (has (number x)) (x ∷ xs) ≡ suc (count_by (has (number x)) xs)
  one_first x xs =
      let own : has (number x) x ≡ true = eq-eqb (number x) (number x) refl in
      let here : once (has (number x) x) ≡ 1 = ap once own in
      omega (arith, here, count_next (number x) x xs)

  -- so in lists of as many elements of each number, the first of a list that ascends is no higher than that of the other
  first_le : (x : A) (xs : List A) (y : A) (ys : List A) → IsNonDecreasingBy number (y ∷ ys)
      → ((v : ℕ) → count_by (has v) (x ∷ xs) ≡ count_by (has v) (y ∷ ys)) → number y ≤ number x
  first_le x xs y ys rises even = by_order (cases (number y) (number x))
    where
      cases : (i m : ℕ) → (i ≤ m) ⊎ (m < i)
      cases i m = grind arith

      by_order : (number y ≤ number x) ⊎ (number x < number y) → number y ≤ number x
      by_order (inl le) = le
      by_order (inr below) =
          let none : count_by (has (number x)) (y ∷ ys) ≡ 0 = none_below (number x) (y ∷ ys) (λ i d lt. (let above : number y ≤ number (get_or (y ∷ ys) i d) = rises 0 i d (omega arith) lt in omega arith)) in
          absurd (omega (arith, one_first x xs, even (number x)))

  ascending_by_counts : (xs ys : List A) → IsNonDecreasingBy number xs → IsNonDecreasingBy number ys → ((v : ℕ) → count_by (has v) xs ≡ count_by (has v) ys) → xs ≡ ys
  ascending_by_counts [] [] rises_x rises_y even = refl
  ascending_by_counts [] (y ∷ ys) rises_x rises_y even = absurd (omega (arith, one_first y ys, even (number y)))
  ascending_by_counts (x ∷ xs) [] rises_x rises_y even = absurd (omega (arith, one_first x xs, even (number x)))
  ascending_by_counts (x ∷ xs) (y ∷ ys) rises_x rises_y even =
      ap (λ z. z ∷ xs) first
      ∙ ap (λ z. y ∷ z) (ascending_by_counts xs ys
      (λ i j d le lt. rises_x (suc i) (suc j) d (omega arith) (omega arith))
      (λ i j d le lt. rises_y (suc i) (suc j) d (omega arith) (omega arith))
      later)
    where
      first : x ≡ y
      first = same x y (omega (arith, first_le x xs y ys rises_y even, first_le y ys x xs rises_x (λ v. sym (even v))))

      later : (v : ℕ) → count_by (has v) xs ≡ count_by (has v) ys
      later v =
          let own : once (has v x) ≡ once (has v y) = ap (λ z. once (has v z)) first in
          omega (arith, own, even v, count_next v x xs, count_next v y ys)

  -- a list has one ascending order
  pub ascending_only : (xs ys : List A) → IsNonDecreasingBy number xs → IsNonDecreasingBy number ys → IsPermutation xs ys → xs ≡ ys
  ascending_only xs ys rises_x rises_y moved =
      ascending_by_counts xs ys rises_x rises_y (λ v. sym (sum_by-IsPermutation (λ x. once (has v x)) xs ys moved))
