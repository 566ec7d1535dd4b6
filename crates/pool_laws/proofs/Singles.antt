-- Which members are alone with their short ids, as members come and go: it goes by how many have the short id that
-- changes, and all others stay as they are.
use Rattle.std.proofs.Common.{◌≡◌, ℕ, ◌+◌, ◌==◌, not, None, Bool, true, false, cond, List, [], ◌∷◌, ◌++◌, Some, find, filter, map, option_map, refl, sym, ap, ◌∙◌, arith}
use Rattle.std.specs.List.{AllByRecursion, count_by}
use Rattle.std.proofs.lemmas.List.Sums.{sum_by-cons}
use Rattle.std.proofs.lemmas.Bool.{eqb-true, not-true, both_ways}
use Rattle.std.proofs.lemmas.Bool.Decides.{nat_tests}
use Rattle.pool_rules.specs.Snapshots.{Member, shorts_of, is_single, sketched_members, sketched_shorts, id_of_short}
use Rattle.id_rules.proofs.Lists.{filter_passed, filter_swap}

-- the members with other short ids
abbrev pub others : ℕ → List Member → List Member
others s ms = filter (λ m. not (m.short == s)) ms

no_more : (n : ℕ) → n ≡ 0 + n
no_more n = omega arith

-- a count, from the front
pub count_by-cons : {X : Type 0} (t : X → Bool) (x : X) (xs : List X) → count_by t (x ∷ xs) ≡ cond (t x) 1 0 + count_by t xs
count_by-cons t x xs = sum_by-cons (λ y. cond (t y) 1 0) x xs

-- ---- filters

-- a filter that all pass
pub filter_all : {X : Type 0} (t : X → Bool) (xs : List X) → AllByRecursion (λ x. t x ≡ true) xs → filter t xs ≡ xs
filter_all t [] h = refl
filter_all t (x ∷ xs) h = ap (λ b. cond b (x ∷ filter t xs) (filter t xs)) h.0 ∙ ap (λ zs. x ∷ zs) (filter_all t xs h.1)

-- two filters that agree on what passes a third
filter_agree : {X : Type 0} (p q r : X → Bool) → ((x : X) → r x ≡ true → p x ≡ q x) → (xs : List X) → AllByRecursion (λ x. r x ≡ true) xs → filter p xs ≡ filter q xs
filter_agree p q r f [] h = refl
filter_agree p q r f (x ∷ xs) h =
    ap (λ zs. cond (p x) (x ∷ zs) zs) (filter_agree p q r f xs h.1) ∙ ap (λ b. cond b (x ∷ filter q xs) (filter q xs)) (f x h.0)

-- the short ids of a filter by short ids
pub shorts_filter : (t : ℕ → Bool) (ms : List Member) → filter t (shorts_of ms) ≡ shorts_of (filter (λ m. t m.short) ms)
shorts_filter t [] = refl
shorts_filter t (m ∷ ms) = by_head (t m.short) (shorts_filter t ms)
  where
    by_head : (b : Bool) → filter t (shorts_of ms) ≡ shorts_of (filter (λ m. t m.short) ms)
        → cond b (m.short ∷ filter t (shorts_of ms)) (filter t (shorts_of ms)) ≡ shorts_of (cond b (m ∷ filter (λ m. t m.short) ms) (filter (λ m. t m.short) ms))
    by_head true rest = ap (λ zs. m.short ∷ zs) rest
    by_head false rest = rest

pub count_shorts : (t : ℕ → Bool) (ms : List Member) → count_by t (shorts_of ms) ≡ count_by (λ m. t m.short) ms
count_shorts t [] = refl
count_shorts t (m ∷ ms) =
    count_by-cons t m.short (shorts_of ms)
    ∙ ap (λ n. cond (t m.short) 1 0 + n) (count_shorts t ms)
    ∙ sym (count_by-cons (λ m. t m.short) m ms)

-- ---- counts

-- others don't have the short id, so its absence changes no other count
count_others : (s t : ℕ) → (t == s) ≡ false → (ms : List Member) → count_by (λ m. m.short == t) (others s ms) ≡ count_by (λ m. m.short == t) ms
count_others s t apart [] = refl
count_others s t apart (m ∷ ms) = by_head (m.short == s) refl (count_others s t apart ms)
  where
    by_head : (b : Bool) → (m.short == s) ≡ b → count_by (λ m. m.short == t) (others s ms) ≡ count_by (λ m. m.short == t) ms
        → count_by (λ m. m.short == t) (cond (not b) (m ∷ others s ms) (others s ms)) ≡ count_by (λ m. m.short == t) (m ∷ ms)
    by_head false h rest =
        count_by-cons (λ m. m.short == t) m (others s ms)
        ∙ ap (λ n. cond (m.short == t) 1 0 + n) rest
        ∙ sym (count_by-cons (λ m. m.short == t) m ms)
    by_head true h rest =
        let same : m.short ≡ s = eqb-true m.short s h in
        let differs : (m.short == t) ≡ false = grind (arith, nat_tests) in
        rest
        ∙ no_more (count_by (λ m. m.short == t) ms)
        ∙ sym (count_by-cons (λ m. m.short == t) m ms ∙ ap (λ b. cond b 1 0 + count_by (λ m. m.short == t) ms) differs)

-- a count over a filter that all that are counted pass
count_passed : {X : Type 0} (p t : X → Bool) → (xs : List X) → ((x : X) → t x ≡ true → p x ≡ true) → count_by t (filter p xs) ≡ count_by t xs
count_passed p t [] f = refl
count_passed p t (x ∷ xs) f = by_head (p x) refl (count_passed p t xs f)
  where
    by_head : (b : Bool) → p x ≡ b → count_by t (filter p xs) ≡ count_by t xs → count_by t (cond b (x ∷ filter p xs) (filter p xs)) ≡ count_by t (x ∷ xs)
    by_head true h rest = count_by-cons t x (filter p xs) ∙ ap (λ n. cond (t x) 1 0 + n) rest ∙ sym (count_by-cons t x xs)
    by_head false h rest = by_test (t x) refl ∙ sym (count_by-cons t x xs)
      where
        by_test : (c : Bool) → t x ≡ c → count_by t (filter p xs) ≡ cond c 1 0 + count_by t xs
        by_test false k = rest ∙ no_more (count_by t xs)
        by_test true k = absurd (both_ways (p x) h (f x k))

-- ---- singles

single_others : (s : ℕ) (ms : List Member) (m : Member) → not (m.short == s) ≡ true → is_single ms m.short ≡ is_single (others s ms) m.short
single_others s ms m h = ap (λ n. n == 1) (sym (count_others s m.short (not-true (m.short == s) h) ms))

-- the sketched short ids without one are those of the others
pub sketched_shorts-others : (s : ℕ) (ms : List Member) → filter (λ n. not (n == s)) (sketched_shorts ms) ≡ sketched_shorts (others s ms)
sketched_shorts-others s ms =
    shorts_filter (λ n. not (n == s)) (sketched_members ms)
    ∙ ap shorts_of
    (filter_swap (λ m. not (m.short == s)) (λ m. is_single ms m.short) ms
    ∙ filter_agree (λ m. is_single ms m.short) (λ m. is_single (others s ms) m.short) (λ m. not (m.short == s)) (single_others s ms) (others s ms) (filter_passed (λ m. not (m.short == s)) ms))

-- one that isn't alone is in none of them
pub sketched_shorts-crowded : (s : ℕ) (ms : List Member) → is_single ms s ≡ false → sketched_shorts ms ≡ sketched_shorts (others s ms)
sketched_shorts-crowded s ms h =
    sym (filter_all (λ n. not (n == s)) (sketched_shorts ms) (apart_all (sketched_members ms) (filter_passed (λ m. is_single ms m.short) ms)))
    ∙ sketched_shorts-others s ms
  where
    apart_one : (m : Member) (b : Bool) → (m.short == s) ≡ b → is_single ms m.short ≡ true → not (m.short == s) ≡ true
    apart_one m false e k = ap not e
    apart_one m true e k = absurd (both_ways (is_single ms s) h (ap (is_single ms) (sym (eqb-true m.short s e)) ∙ k))

    apart_all : (xs : List Member) → AllByRecursion (λ m. is_single ms m.short ≡ true) xs → AllByRecursion (λ n. not (n == s) ≡ true) (shorts_of xs)
    apart_all [] k = tt
    apart_all (m ∷ xs) k = (apart_one m (m.short == s) refl k.0, apart_all xs k.1)

-- one that is alone is in them once
pub sketched_shorts-alone : (s : ℕ) (ms : List Member) → is_single ms s ≡ true → count_by (λ n. n == s) (sketched_shorts ms) ≡ 1
sketched_shorts-alone s ms h =
    count_shorts (λ n. n == s) (sketched_members ms)
    ∙ count_passed (λ m. is_single ms m.short) (λ m. m.short == s) ms (λ m e. ap (is_single ms) (eqb-true m.short s e) ∙ h)
    ∙ eqb-true (count_by (λ m. m.short == s) ms) 1 h

-- ---- the id of a short id

-- what is found where all that have the short id pass
find_passed : (s : ℕ) (p : Member → Bool) (ms : List Member) → ((m : Member) → (m.short == s) ≡ true → p m ≡ true) → find (λ m. m.short == s) (filter p ms) ≡ find (λ m. m.short == s) ms
find_passed s p [] f = refl
find_passed s p (m ∷ ms) f = by_head (p m) refl (find_passed s p ms f)
  where
    by_head : (b : Bool) → p m ≡ b → find (λ m. m.short == s) (filter p ms) ≡ find (λ m. m.short == s) ms
        → find (λ m. m.short == s) (cond b (m ∷ filter p ms) (filter p ms)) ≡ cond (m.short == s) (Some m) (find (λ m. m.short == s) ms)
    by_head true h rest = ap (cond (m.short == s) (Some m)) rest
    by_head false h rest = by_test (m.short == s) refl
      where
        by_test : (c : Bool) → (m.short == s) ≡ c → find (λ m. m.short == s) (filter p ms) ≡ cond c (Some m) (find (λ m. m.short == s) ms)
        by_test false k = rest
        by_test true k = absurd (both_ways (p m) h (f m k))

-- a short id that one member alone has is of that member
pub id_of_short-alone : (s : ℕ) (ms : List Member) → is_single ms s ≡ true → id_of_short ms s ≡ option_map (λ m. m.id) (find (λ m. m.short == s) ms)
id_of_short-alone s ms h =
    ap (option_map (λ m. m.id)) (find_passed s (λ m. is_single ms m.short) ms (λ m e. ap (is_single ms) (eqb-true m.short s e) ∙ h))

-- and any other of none
pub id_of_short-crowded : (s : ℕ) (ms : List Member) → is_single ms s ≡ false → id_of_short ms s ≡ None
id_of_short-crowded s ms h = ap (option_map (λ m. m.id)) (none_found (sketched_members ms) (filter_passed (λ m. is_single ms m.short) ms))
  where
    none_found : (xs : List Member) → AllByRecursion (λ m. is_single ms m.short ≡ true) xs → find (λ m. m.short == s) xs ≡ None
    none_found [] k = refl
    none_found (m ∷ xs) k = by_test (m.short == s) refl (none_found xs k.1)
      where
        by_test : (c : Bool) → (m.short == s) ≡ c → find (λ m. m.short == s) xs ≡ None → cond c (Some m) (find (λ m. m.short == s) xs) ≡ None
        by_test false e rest = rest
        by_test true e rest = absurd (both_ways (is_single ms s) h (ap (is_single ms) (sym (eqb-true m.short s e)) ∙ k.0))
