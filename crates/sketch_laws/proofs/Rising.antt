-- Lists that rise between two bounds: what they have, and that what they have tells them.
use Rattle.std.proofs.Common.{◌≡◌, inl, inr, ℕ, suc, ◌+◌, ◌<◌, ◌≤◌, ◌==◌, true, false, ◌||◌, List, [], ◌∷◌, length, get_or, refl, sym, ap, ◌∙◌, arith}
use Rattle.std.specs.List.{All, AllPairs}
use Rattle.std.proofs.lemmas.Bool.{eqb-true, eq-eqb, or_cases, cases_Bool}
use Rattle.std.proofs.lemmas.List.Kept.{AllPairs-cons}
use Rattle.std.proofs.lemmas.List.Elements.{Contains-get_or}
use Rattle.field_rules.specs.Lists.{AreDistinct}
use Rattle.sketch_rules.specs.Answers.{IsAscending}
use Rattle.sketch_rules.specs.Sets.{difference}
use Rattle.sketch_laws.proofs.Sets.{has, has-from_Contains, difference-from, difference-rises}

-- what it has lies between the bounds
pub has_within : (low high : ℕ) (xs : List ℕ) → IsAscending low high xs → (n : ℕ) → has xs n ≡ true → (low ≤ n) × (n < high)
unfolding IsAscending
has_within low high [] rises n held = cc held
has_within low high (x ∷ xs) rises n held = elim (or_cases (x == n) (has xs n) held) [
  | inl same ↦ let e = eqb-true x n same in (omega (arith, rises.0), omega (arith, rises.1))
  | inr later ↦ let rest = has_within (x + 1) high xs rises.2 n later in (omega (arith, rises.0, rest.0), rest.1)
]

-- what stands at an index is in it
has_at : (xs : List ℕ) (k d : ℕ) → k < length xs → has xs (get_or xs k d) ≡ true
has_at xs k d lt = has-from_Contains xs (get_or xs k d) (Contains-get_or xs k d lt)

-- each of its numbers does
pub each_within : (low high : ℕ) (xs : List ℕ) → IsAscending low high xs → (k d : ℕ) → k < length xs → (low ≤ get_or xs k d) × (get_or xs k d < high)
each_within low high xs rises k d lt = has_within low high xs rises (get_or xs k d) (has_at xs k d lt)

-- nothing below it is in it
pub lacks_below : (low high : ℕ) (xs : List ℕ) → IsAscending low high xs → (n : ℕ) → n < low → has xs n ≡ false
lacks_below low high xs rises n below = elim (cases_Bool (has xs n)) [
  | inl held ↦ let within = has_within low high xs rises n held in absurd (omega (arith, within.0))
  | inr gone ↦ gone
]

-- the head is in it
has_head : (x : ℕ) (xs : List ℕ) → has (x ∷ xs) x ≡ true
has_head x xs = ap (λ b. b || has xs x) (eq-eqb x x refl)

-- of two such lists with the same numbers, the first numbers are the same
same_heads : (low high x y : ℕ) (xs ys : List ℕ) → IsAscending low high (x ∷ xs) → IsAscending low high (y ∷ ys) → ((n : ℕ) → has (x ∷ xs) n ≡ has (y ∷ ys) n) → x ≡ y
unfolding IsAscending
same_heads low high x y xs ys h k same =
    let above : (y ≤ x) × (x < high) = has_within y high (y ∷ ys) (omega arith, k.1, k.2) x (sym (same x) ∙ has_head x xs) in
    let below : (x ≤ y) × (y < high) = has_within x high (x ∷ xs) (omega arith, h.1, h.2) y (same y ∙ has_head y ys) in
    omega (arith, above.0, below.0)

-- and so are those after them
same_tails : (low high x y : ℕ) (xs ys : List ℕ) → IsAscending low high (x ∷ xs) → IsAscending low high (y ∷ ys) → x ≡ y → ((n : ℕ) → has (x ∷ xs) n ≡ has (y ∷ ys) n) → (n : ℕ) → has xs n ≡ has ys n
unfolding IsAscending
same_tails low high x y xs ys h k e same n = elim (cases_Bool (x == n)) [
  | inl here ↦
      let at = eqb-true x n here in
      lacks_below (x + 1) high xs h.2 n (omega arith) ∙ sym (lacks_below (y + 1) high ys k.2 n (omega arith))
  | inr away ↦ ap (λ b. b || has xs n) (sym away) ∙ same n ∙ ap (λ b. b || has ys n) (ap (λ z. z == n) (sym e) ∙ away)
]

-- two such lists with the same numbers are the same
pub same_rising : (low high : ℕ) (xs ys : List ℕ) → IsAscending low high xs → IsAscending low high ys → ((n : ℕ) → has xs n ≡ has ys n) → xs ≡ ys
unfolding IsAscending
same_rising low high [] [] h k same = refl
same_rising low high [] (y ∷ ys) h k same = cc (same y, has_head y ys)
same_rising low high (x ∷ xs) [] h k same = cc (same x, has_head x xs)
same_rising low high (x ∷ xs) (y ∷ ys) h k same =
    let first = same_heads low high x y xs ys h k same in
    let after_y : IsAscending (x + 1) high ys = rw first k.2 in
    let rest = same_rising (x + 1) high xs ys h.2 after_y (same_tails low high x y xs ys h k first same) in
    cc

-- each number is below those after it
pub AllPairs-from_IsAscending : (low high : ℕ) (xs : List ℕ) → IsAscending low high xs → AllPairs (λ a b. a < b) xs
unfolding IsAscending
AllPairs-from_IsAscending low high [] rises = λ i j d below within. absurd (omega arith)
AllPairs-from_IsAscending low high (x ∷ xs) rises =
    AllPairs-cons (λ a b. a < b) x xs (λ k d lt. (let within = each_within (x + 1) high xs rises.2 k d lt in omega (arith, within.0))) (AllPairs-from_IsAscending (x + 1) high xs rises.2)

-- no number stands twice
pub differ_from_rises : (low high : ℕ) (xs : List ℕ) → IsAscending low high xs → AreDistinct xs
differ_from_rises low high xs rises i j d below within same =
    let less = AllPairs-from_IsAscending low high xs rises i j d below within in omega arith

-- and the other way round
pub IsAscending-from_AllPairs : (low high : ℕ) (xs : List ℕ) → All (λ n. low ≤ n) xs → All (λ n. n < high) xs → AllPairs (λ a b. a < b) xs → IsAscending low high xs
unfolding IsAscending
IsAscending-from_AllPairs low high [] least most pairs = tt
IsAscending-from_AllPairs low high (x ∷ xs) least most pairs = (
  least 0 x (omega arith),
  most 0 x (omega arith),
  IsAscending-from_AllPairs (x + 1) high xs
      (λ k d lt. let after = pairs 0 (suc k) d (omega arith) (omega arith) in omega arith)
      (λ k d lt. most (suc k) d (omega arith))
      (λ i j d below within. pairs (suc i) (suc j) d (omega arith) (omega arith)),
)

-- the difference of two such lists rises between the same bounds
pub IsAscending-difference : (low high : ℕ) (xs ys : List ℕ) → IsAscending low high xs → IsAscending low high ys → IsAscending low high (difference xs ys)
IsAscending-difference low high xs ys h k =
    IsAscending-from_AllPairs low high (difference xs ys) (λ i d lt. (within i d lt).0) (λ i d lt. (within i d lt).1)
    (difference-rises xs ys (differ_from_rises low high xs h) (differ_from_rises low high ys k))
  where
    within : (i d : ℕ) → i < length (difference xs ys) → (low ≤ get_or (difference xs ys) i d) × (get_or (difference xs ys) i d < high)
    within i d lt = elim (difference-from xs ys (get_or (difference xs ys) i d) (has_at (difference xs ys) i d lt)) [
      | inl one ↦ has_within low high xs h (get_or (difference xs ys) i d) one
      | inr other ↦ has_within low high ys k (get_or (difference xs ys) i d) other
    ]
