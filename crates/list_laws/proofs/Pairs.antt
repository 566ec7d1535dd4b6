-- What holds of each two items of a list, in whatever order.
use Rattle.std.proofs.Common.{◌≡◌, ◌≢◌, ℕ, ◌+◌, ◌<◌, ◌≤◌, List, length, map, get_or, refl, sym, ap, ◌∙◌, arith, subst, ◌⊎◌, inl, inr, ⊎_elim}
use Rattle.std.specs.List.{AllPairs, swap}
use Rattle.std.specs.List.Sorted.{IsPermutation, IsNonDecreasing}
use Rattle.std.proofs.lemmas.List.{length-map, get_or-map, get_or_default}
use Rattle.std.proofs.lemmas.List.Edits.{Swapped, length-swap, swapped_from_swap}
use Rattle.std.proofs.lemmas.Bool.{cases_eq, cases_lt}
use Rattle.std.proofs.lemmas.List.Sorted.{IsPermutation-keeps}
use Rattle.field_rules.specs.Lists.{AreDistinct}

-- where the item at index m stood before the items at indices a and b were swapped
abbrev Origin : ℕ → ℕ → ℕ → ℕ → Type 0
Origin a b m k = ((m ≡ a) × (k ≡ b)) ⊎ (((m ≡ b) × (k ≡ a)) ⊎ ((m ≢ a) × (m ≢ b) × (k ≡ m)))

origin_of : {A : Type 0} (f g : ℕ → A) (a b m : ℕ) → Swapped f g a b → (m ≡ a) ⊎ (m ≢ a) → (m ≡ b) ⊎ (m ≢ b) → (k : ℕ) × Origin a b m k × (g m ≡ f k)
origin_of f g a b m swapped (inl at_a) either = (b, inl (at_a, refl), ap g at_a ∙ swapped.0)
origin_of f g a b m swapped (inr not_a) (inl at_b) = (a, inr (inl (at_b, refl)), ap g at_b ∙ swapped.1)
origin_of f g a b m swapped (inr not_a) (inr not_b) = (m, inr (inr (not_a, not_b, refl)), swapped.2 m not_a not_b)

module _ {A : Type 0} (R : A → A → Type 0) (turned : (a b : A) → R a b → R b a) where
  -- two items at different indices
  both : (xs : List A) (k l : ℕ) (d : A) → AllPairs R xs → k ≢ l → k < length xs → l < length xs → R (get_or xs k d) (get_or xs l d)
  both xs k l d all apart k_in l_in = ⊎_elim
      (λ (before : k < l). all k l d before l_in)
      (λ (behind : l ≤ k). turned (get_or xs l d) (get_or xs k d) (all l k d (omega arith) k_in))
      (cases_lt k l)

  -- after two items were swapped
  AllPairs-swap : (xs : List A) (a b : ℕ) → a < length xs → b < length xs → AllPairs R xs → AllPairs R (swap xs a b)
  AllPairs-swap xs a b a_in b_in all i j d before j_in =
      let len = length-swap xs a b in
      let swapped = swapped_from_swap xs (swap xs a b) a b d a_in b_in refl in
      let from_i = origin_of (λ k. get_or xs k d) (λ k. get_or (swap xs a b) k d) a b i swapped (cases_eq i a) (cases_eq i b) in
      let from_j = origin_of (λ k. get_or xs k d) (λ k. get_or (swap xs a b) k d) a b j swapped (cases_eq j a) (cases_eq j b) in
      let apart : from_i.0 ≢ from_j.0 = λ same. (let one : from_i.0 ≡ from_j.0 = same in omega (arith, from_i.1, from_j.1)) in
      let here = both xs from_i.0 from_j.0 d all apart (omega (arith, from_i.1, len)) (omega (arith, from_j.1, len)) in
      subst (λ (x : A). R x (get_or (swap xs a b) j d)) (sym from_i.2) (subst (λ (y : A). R (get_or xs from_i.0 d) y) (sym from_j.2) here)

  -- in another order
  pub AllPairs-permutation : (xs ys : List A) → IsPermutation xs ys → AllPairs R xs → AllPairs R ys
  AllPairs-permutation xs ys moved all = IsPermutation-keeps xs (AllPairs R) all AllPairs-swap ys moved

-- items that differ are apart in another order
pub AreDistinct-permutation : {A : Type 0} (xs ys : List A) → IsPermutation xs ys → AreDistinct xs → AreDistinct ys
AreDistinct-permutation = AllPairs-permutation (λ a b. a ≢ b) (λ a b apart same. apart (sym same))

-- items of which something differs differ
pub AreDistinct-from_map : {A B : Type 0} (f : A → B) (xs : List A) → AreDistinct (map f xs) → AreDistinct xs
AreDistinct-from_map f xs distinct i j d before j_in same =
    let j_there : j < length (map f xs) = rw length-map j_in in
    let i_in : i < length xs = omega arith in
    distinct i j (f d) before j_there (get_or-map f xs i d (f d) i_in ∙ ap f same ∙ sym (get_or-map f xs j d (f d) j_in))

-- numbers in ascending order differ where no two neighbours are equal
pub distinct_from_neighbours : (xs : List ℕ) → IsNonDecreasing xs → ((k : ℕ) → k + 1 < length xs → get_or xs k 0 ≢ get_or xs (k + 1) 0) → AreDistinct xs
distinct_from_neighbours xs up apart i j d before within same =
    let next : get_or xs i d ≤ get_or xs (i + 1) d = up i (i + 1) d (omega arith) (omega arith) in
    let far : get_or xs (i + 1) d ≤ get_or xs j d = up (i + 1) j d (omega arith) within in
    let at_i = get_or_default xs i d 0 (omega arith) in
    let at_next = get_or_default xs (i + 1) d 0 (omega arith) in
    apart i (omega arith) (let level : get_or xs i 0 ≡ get_or xs (i + 1) 0 = omega arith in level)
