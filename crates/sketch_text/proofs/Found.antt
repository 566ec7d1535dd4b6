-- The numbers of an ascending list that are equal to the one before them.
use Rattle.std.proofs.Common.{◌≡◌, ◌≢◌, ℕ, ◌+◌, ◌-◌, ◌<◌, ◌≤◌, List, [], ◌∷◌, ◌++◌, length, get_or, sym, ap, ◌∙◌, arith, subst, length-append, ⊎_elim}
use Rattle.std.proofs.Math.ListN.{get_or-append}
use Rattle.std.proofs.Math.Seq.{get_or-append_seam}
use Rattle.std.proofs.lemmas.Bool.{cases_eq, cases_lt}
use Rattle.std.proofs.lemmas.List.{get_or_default}
use Rattle.std.proofs.lemmas.List.Elements.{Contains-append_left, Contains-append_right}
use Rattle.std.specs.List.{Contains}
use Rattle.std.specs.List.Sorted.{IsNonDecreasing}
use Rattle.field_rules.specs.Lists.{AreDistinct}
use Rattle.sketch_text.specs.Repeats.{HasRepeats}

-- what was found up to index i
pub record Found (sorted : List ℕ) (i : ℕ) (found : List ℕ) : Type 0 where
  pub rising : IsNonDecreasing found
  pub below : (k d : ℕ) → k < length found → get_or found k d ≤ get_or sorted (i - 1) 0
  pub covers : (k : ℕ) → k + 1 < i → get_or sorted k 0 ≡ get_or sorted (k + 1) 0 → Contains found (get_or sorted k 0)

-- a number at the end that is at least each other
rising-push : (xs : List ℕ) (y : ℕ) → IsNonDecreasing xs → ((k d : ℕ) → k < length xs → get_or xs k d ≤ y) → IsNonDecreasing (xs ++ y ∷ [])
rising-push xs y rising below a b d before within =
    let last : get_or (xs ++ y ∷ []) (length xs) d ≡ y = get_or-append_seam xs y [] d in
    let b_in : b ≤ length xs = omega (arith, simp length-append at within) in
    ⊎_elim
    (λ (b_old : b < length xs). rw (get_or-append xs (y ∷ []) d a (omega arith), get_or-append xs (y ∷ []) d b b_old) (rising a b d before b_old))
    (λ (b_new : length xs ≤ b). (let b_is : b ≡ length xs = omega arith in
    let at_b : get_or (xs ++ y ∷ []) b d ≡ y = ap (λ k. get_or (xs ++ y ∷ []) k d) b_is ∙ last in
    ⊎_elim
    (λ (a_old : a < length xs). (let at_a = get_or-append xs (y ∷ []) d a a_old in let low = below a d a_old in omega arith))
    (λ (a_new : length xs ≤ a). (let same : a ≡ b = omega arith in let equal = ap (λ k. get_or (xs ++ y ∷ []) k d) same in omega arith))
    (cases_lt a (length xs))))
    (cases_lt b (length xs))

module _ (sorted : List ℕ) (up : IsNonDecreasing sorted) (i : ℕ) (found : List ℕ) (known : Found sorted i found) (some : 1 ≤ i) (within : i < length sorted) where
  -- the number at i is the largest so far
  low : (k d : ℕ) → k < length found → get_or found k d ≤ get_or sorted i 0
  low k d k_in = let before = known.below k d k_in in let step = up (i - 1) i 0 (omega arith) within in omega arith

  -- where it is above the one before
  pub found_same : get_or sorted (i - 1) 0 ≢ get_or sorted i 0 → Found sorted (i + 1) found
  found_same differs = record {
    rising = known.rising;
    below = λ k d k_in. (let here = low k d k_in in let at : i + 1 - 1 ≡ i = omega arith in rw at here);
    covers = λ k before same. ⊎_elim
        (λ (here : k ≡ i - 1). absurd (differs (sym (ap (λ n. get_or sorted n 0) here) ∙ same ∙ ap (λ n. get_or sorted n 0) (let at : k + 1 ≡ i = omega arith in at))))
        (λ (other : k ≢ i - 1). known.covers k (omega arith) same)
        (cases_eq k (i - 1));
  }

  -- where it is equal to the one before
  pub found_more : get_or sorted (i - 1) 0 ≡ get_or sorted i 0 → Found sorted (i + 1) (found ++ get_or sorted i 0 ∷ [])
  found_more equal =
      let y = get_or sorted i 0 in
      let rising = rising-push found y known.rising low in
      record {
        rising = rising;
        below = λ k d k_in. (let high = rising k (length found) d (omega (arith, simp length-append at k_in)) (simp length-append (omega arith)) in
            let last : get_or (found ++ y ∷ []) (length found) d ≡ y = get_or-append_seam found y [] d in
            let at : i + 1 - 1 ≡ i = omega arith in rw at (let here : get_or (found ++ y ∷ []) k d ≤ y = omega arith in here));
        covers = λ k before same. ⊎_elim
            (λ (here : k ≡ i - 1). Contains-append_right found (y ∷ []) (get_or sorted k 0) (0, omega arith, sym equal ∙ ap (λ n. get_or sorted n 0) (sym here)))
            (λ (other : k ≢ i - 1). Contains-append_left found (y ∷ []) (get_or sorted k 0) (known.covers k (omega arith) same))
            (cases_eq k (i - 1));
      }

-- at the end
pub found_all : (sorted : List ℕ) (i : ℕ) (found : List ℕ) → IsNonDecreasing sorted → Found sorted i found → length sorted ≤ i → HasRepeats found sorted
found_all sorted i found up known all a b d before b_in same =
    let next : get_or sorted a d ≤ get_or sorted (a + 1) d = up a (a + 1) d (omega arith) (omega arith) in
    let far : get_or sorted (a + 1) d ≤ get_or sorted b d = up (a + 1) b d (omega arith) b_in in
    let at_a = get_or_default sorted a d 0 (omega arith) in
    let at_next = get_or_default sorted (a + 1) d 0 (omega arith) in
    subst (λ (x : ℕ). Contains found x) (sym at_a) (known.covers a (omega arith) (let level : get_or sorted a 0 ≡ get_or sorted (a + 1) 0 = omega arith in level))

-- where nothing is found, no two numbers are equal
pub distinct_from_none : (found xs : List ℕ) → length found ≡ 0 → HasRepeats found xs → AreDistinct xs
distinct_from_none found xs none repeats i j d before j_in same = let there = repeats i j d before j_in same in omega (arith, there.1)
