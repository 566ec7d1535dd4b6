-- Which short ids are sketched, and which are in a list.
use Rattle.std.proofs.Common.{◌≡◌, ◌==◌, ◌+◌, ◌<◌, ◌≤◌, ◌||◌, ℕ, Result, Ok, Err, length, get_or, ⊎_elim, not, Bool, true, false, cond, List, [], ◌∷◌, filter, refl, sym, ap, ◌∙◌, arith}
use Rattle.std.specs.List.{list_any, AllByRecursion, count_by}
use Rattle.std.specs.List.Sorted.{IsNonDecreasing, IsPermutation, IsBinarySearchResult}
use Rattle.std.specs.Ordering.{nat_cmp}
use Rattle.std.specs.Result.{MatchResult, is_ok}
use Rattle.std.proofs.lemmas.List.{get_or_default}
use Rattle.std.proofs.lemmas.List.Folds.{list_any_at, list_any_none}
use Rattle.std.proofs.lemmas.List.Sorted.{searched, list_any-IsPermutation}
use Rattle.std.proofs.lemmas.Bool.{eqb-true, eq-eqb, both_ways, cases_lt}
use Rattle.std.proofs.lemmas.Bool.Decides.{nat_tests}
use Rattle.id_rules.proofs.Lists.{filter_passed}
use Rattle.pool_rules.specs.Snapshots.{Member, ids_of, is_single, shorts_of, sketched_members, sketched_shorts}
use Rattle.recon_set.specs.Announcements.{announced_ids}
use Rattle.pool_laws.proofs.Singles.{count_by-cons, sketched_shorts-alone}

-- what stands once in a list stands in it
any_counted : (t : ℕ → Bool) (xs : List ℕ) → count_by t xs ≡ 1 → list_any t xs ≡ true
any_counted t [] e = absurd (omega arith)
any_counted t (x ∷ xs) e = by_head (t x) (sym (count_by-cons t x xs) ∙ e) (any_counted t xs)
  where
    by_head : (b : Bool) → cond b 1 0 + count_by t xs ≡ 1 → (count_by t xs ≡ 1 → list_any t xs ≡ true) → (b || list_any t xs) ≡ true
    by_head true k rest = refl
    by_head false k rest = rest (omega arith)

-- a short id is sketched where one member alone has it
pub is_sketched-single : (ms : List Member) (s : ℕ) → list_any (λ other. other == s) (sketched_shorts ms) ≡ is_single ms s
is_sketched-single ms s = by_single (is_single ms s) refl
  where
    none : (xs : List Member) → is_single ms s ≡ false → AllByRecursion (λ m. is_single ms m.short ≡ true) xs → list_any (λ other. other == s) (shorts_of xs) ≡ false
    none [] h k = refl
    none (m ∷ xs) h k = by_head (m.short == s) refl (none xs h k.1)
      where
        by_head : (b : Bool) → (m.short == s) ≡ b → list_any (λ other. other == s) (shorts_of xs) ≡ false → (b || list_any (λ other. other == s) (shorts_of xs)) ≡ false
        by_head false e rest = rest
        by_head true e rest = absurd (both_ways (is_single ms s) h (ap (is_single ms) (sym (eqb-true m.short s e)) ∙ k.0))

    by_single : (b : Bool) → is_single ms s ≡ b → list_any (λ other. other == s) (sketched_shorts ms) ≡ b
    by_single true h = any_counted (λ other. other == s) (sketched_shorts ms) (sketched_shorts-alone s ms h)
    by_single false h = none (sketched_members ms) h (filter_passed (λ m. is_single ms m.short) ms)

-- what a search in ascending order tells of a list
pub found-listed : (xs : List ℕ) (s : ℕ) (r : Result ℕ ℕ) → IsBinarySearchResult (λ y. nat_cmp y s) xs r → IsNonDecreasing xs → is_ok r ≡ list_any (λ other. other == s) xs
found-listed xs s r h up = by_result r (searched xs s r h (λ i j le j_in. up i j 0 le j_in))
  where
    absent : (i : ℕ) → ((k : ℕ) → k < i → get_or xs k 0 < s) → ((k : ℕ) → i ≤ k → k < length xs → s < get_or xs k 0) → (k : ℕ) (d : ℕ) → k < length xs → (get_or xs k d == s) ≡ false
    absent i low high k d k_in =
        let same = get_or_default xs k d 0 k_in in
        ⊎_elim
        (λ (before : k < i). let less = low k before in grind (arith, nat_tests))
        (λ (behind : i ≤ k). let more = high k behind k_in in grind (arith, nat_tests))
        (cases_lt k i)

    by_result : (r : Result ℕ ℕ) → MatchResult r (λ i. (i < length xs) × (get_or xs i 0 ≡ s)) (λ i. (i ≤ length xs) × ((k : ℕ) → k < i → get_or xs k 0 < s) × ((k : ℕ) → i ≤ k → k < length xs → s < get_or xs k 0))
        → is_ok r ≡ list_any (λ other. other == s) xs
    by_result (Ok i) found = sym (list_any_at (λ other. other == s) xs i 0 found.0 (eq-eqb (get_or xs i 0) s found.1))
    by_result (Err i) none = sym (list_any_none (λ other. other == s) xs (absent i none.1 none.2))

-- two filters that agree everywhere
filter_same : {X : Type 0} (p q : X → Bool) → ((x : X) → p x ≡ q x) → (xs : List X) → filter p xs ≡ filter q xs
filter_same p q f [] = refl
filter_same p q f (x ∷ xs) = ap (λ zs. cond (p x) (x ∷ zs) zs) (filter_same p q f xs) ∙ ap (λ b. cond b (x ∷ filter q xs) (filter q xs)) (f x)

or_swapped : (b c : Bool) → (b || c) ≡ (c || b)
or_swapped true true = refl
or_swapped true false = refl
or_swapped false true = refl
or_swapped false false = refl

-- what is announced, by the short ids in another order
pub announced-permutation : (ms : List Member) (shorts sorted : List ℕ) → IsPermutation shorts sorted
    → ids_of (filter (λ m. list_any (λ other. other == m.short) sorted || not (is_single ms m.short)) ms) ≡ announced_ids ms shorts
announced-permutation ms shorts sorted moved =
    ap ids_of
    (filter_same (λ m. list_any (λ other. other == m.short) sorted || not (is_single ms m.short)) (λ m. not (is_single ms m.short) || list_any (λ other. other == m.short) shorts)
    (λ m. or_swapped (list_any (λ other. other == m.short) sorted) (not (is_single ms m.short))
    ∙ ap (λ b. not (is_single ms m.short) || b) (sym (list_any-IsPermutation (λ other. other == m.short) shorts sorted moved))) ms)
