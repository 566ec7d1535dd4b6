-- Lists of ids: their members, and lists in which no id stands twice.
use Rattle.std.proofs.Common.{◌≡◌, ◌||◌, not, Bool, true, false, List, [], ◌∷◌, ◌++◌, filter, refl, sym, ap, ap₂, ◌∙◌, subst, ⊎_elim}
use Rattle.std.specs.List.{AllByRecursion}
use Rattle.std.specs.Cmp.Lexicographic.{bytes_decides}
use Rattle.std.proofs.lemmas.Bool.{or_cases, or_left, or_right, or_parts, not-true, both_ways, false_from_ne_true, cond_both}
use Rattle.std.proofs.lemmas.List.Folds.{list_any-append}
use Rattle.base_types.specs.declared.lists.Hash32.{Hash32}
use Rattle.pool_rules.specs.Pools.{is_same_id, is_listed, without_id, AreDistinctIds}
use Rattle.id_rules.proofs.Lists.{all_weaker, all_filter}

-- ---- equal ids

pub is_same_id-self : (id : Hash32) → is_same_id id id ≡ true
is_same_id-self id = (bytes_decides id.0 id.0).1 refl

pub is_same_id-equal : (a b : Hash32) → is_same_id a b ≡ true → a ≡ b
is_same_id-equal a b e = ap (λ x. record { 0 = x }) ((bytes_decides a.0 b.0).0 e)

pub both_false : (a b : Bool) → a ≡ false → b ≡ false → (a || b) ≡ false
both_false a b e h = ap₂ (λ x y. x || y) e h

-- ---- members

pub all_listed : (P : Hash32 → Type 0) (ids : List Hash32) → AllByRecursion P ids → (id : Hash32) → is_listed ids id ≡ true → P id
all_listed P [] h id e = absurd (let apart : false ≡ true = e in cc)
all_listed P (x ∷ xs) h id e =
    ⊎_elim (λ here. subst P (is_same_id-equal x id here) h.0) (λ later. all_listed P xs h.1 id later) (or_cases (is_same_id x id) (is_listed xs id) e)

-- what is so of each id that is listed
pub listed_all : (P : Hash32 → Type 0) (ids : List Hash32) → ((id : Hash32) → is_listed ids id ≡ true → P id) → AllByRecursion P ids
listed_all P [] f = tt
listed_all P (x ∷ xs) f = (f x (or_left (is_same_id x x) (is_listed xs x) (is_same_id-self x)), listed_all P xs (λ id e. f id (or_right (is_same_id x id) (is_listed xs id) e)))

-- ids that lack a property are not among those that have it
pub unlisted : (P : Hash32 → Type 0) (ids : List Hash32) (id : Hash32) → AllByRecursion P ids → (P id → ⊥) → is_listed ids id ≡ false
unlisted P ids id h lacks = false_from_ne_true (is_listed ids id) (λ e. lacks (all_listed P ids h id e))

pub listed_append : (xs ys : List Hash32) (id : Hash32) → is_listed (xs ++ ys) id ≡ (is_listed xs id || is_listed ys id)
listed_append xs ys id = list_any-append (λ other. is_same_id other id) xs ys

pub unlisted_filter : (t : Hash32 → Bool) (ids : List Hash32) (id : Hash32) → is_listed ids id ≡ false → is_listed (filter t ids) id ≡ false
unlisted_filter t [] id h = h
unlisted_filter t (x ∷ xs) id h =
    let parts = or_parts (is_same_id x id) (is_listed xs id) h in
    cond_both (t x) (x ∷ filter t xs) (filter t xs) (λ zs. is_listed zs id ≡ false) (λ e. both_false (is_same_id x id) (is_listed (filter t xs) id) parts.0 (unlisted_filter t xs id parts.1)) (λ e. unlisted_filter t xs id parts.1)

-- a list without an id
pub gone : (ids : List Hash32) (x : Hash32) → is_listed (without_id ids x) x ≡ false
gone [] x = refl
gone (y ∷ ys) x =
    cond_both (not (is_same_id y x)) (y ∷ without_id ys x) (without_id ys x) (λ zs. is_listed zs x ≡ false) (λ e. both_false (is_same_id y x) (is_listed (without_id ys x) x) (not-true (is_same_id y x) e) (gone ys x)) (λ e. gone ys x)

-- ---- no id twice

pub distinct_right : (xs ys : List Hash32) → AreDistinctIds (xs ++ ys) → AreDistinctIds ys
unfolding AreDistinctIds
distinct_right [] ys d = d
distinct_right (x ∷ xs) ys d = distinct_right xs ys d.1

pub distinct_left : (xs ys : List Hash32) → AreDistinctIds (xs ++ ys) → AreDistinctIds xs
unfolding AreDistinctIds
distinct_left [] ys d = tt
distinct_left (x ∷ xs) ys d =
    (ap not (or_parts (is_listed xs x) (is_listed ys x) (sym (listed_append xs ys x) ∙ not-true (is_listed (xs ++ ys) x) d.0)).0, distinct_left xs ys d.1)

pub distinct_apart : (xs ys : List Hash32) → AreDistinctIds (xs ++ ys) → AllByRecursion (λ id. is_listed xs id ≡ false) ys
unfolding AreDistinctIds
distinct_apart [] ys d = listed_all (λ id. is_listed [] id ≡ false) ys (λ id e. refl)
distinct_apart (x ∷ xs) ys d =
    let rest = distinct_apart xs ys d.1 in
    let out : is_listed (xs ++ ys) x ≡ false = not-true (is_listed (xs ++ ys) x) d.0 in
    let not_in : is_listed ys x ≡ false = (or_parts (is_listed xs x) (is_listed ys x) (sym (listed_append xs ys x) ∙ out)).1 in
    listed_all (λ id. is_listed (x ∷ xs) id ≡ false) ys
    (λ id e. both_false (is_same_id x id) (is_listed xs id) (false_from_ne_true (is_same_id x id) (λ s. both_ways (is_listed ys x) not_in (subst (λ z. is_listed ys z ≡ true) (sym (is_same_id-equal x id s)) e)))
    (all_listed (λ z. is_listed xs z ≡ false) ys rest id e))

pub distinct_both : (xs ys : List Hash32) → AreDistinctIds xs → AreDistinctIds ys → AllByRecursion (λ id. is_listed xs id ≡ false) ys → AreDistinctIds (xs ++ ys)
unfolding AreDistinctIds
distinct_both [] ys d e h = e
distinct_both (x ∷ xs) ys d e h =
    let tails = all_weaker (λ id. is_listed (x ∷ xs) id ≡ false) (λ id. is_listed xs id ≡ false) (λ id k. (or_parts (is_same_id x id) (is_listed xs id) k).1) ys h in
    let out : is_listed ys x ≡ false = false_from_ne_true (is_listed ys x) (λ k. both_ways (is_same_id x x) (or_parts (is_same_id x x) (is_listed xs x) (all_listed (λ id. is_listed (x ∷ xs) id ≡ false) ys h x k)).0 (is_same_id-self x)) in
    (ap not (listed_append xs ys x ∙ both_false (is_listed xs x) (is_listed ys x) (not-true (is_listed xs x) d.0) out), distinct_both xs ys d.1 e tails)

pub one_alone : (id : Hash32) → AreDistinctIds (id ∷ [])
unfolding AreDistinctIds
one_alone id = (refl, tt)

pub distinct_filter : (t : Hash32 → Bool) (ids : List Hash32) → AreDistinctIds ids → AreDistinctIds (filter t ids)
unfolding AreDistinctIds
distinct_filter t [] d = tt
distinct_filter t (x ∷ xs) d =
    cond_both (t x) (x ∷ filter t xs) (filter t xs) AreDistinctIds (λ e. (ap not (unlisted_filter t xs x (not-true (is_listed xs x) d.0)), distinct_filter t xs d.1)) (λ e. distinct_filter t xs d.1)

-- of two lists without common ids, one with fewer
pub distinct_fewer_right : (t : Hash32 → Bool) (xs ys : List Hash32) → AreDistinctIds (xs ++ ys) → AreDistinctIds (xs ++ filter t ys)
distinct_fewer_right t xs ys d =
    distinct_both xs (filter t ys) (distinct_left xs ys d) (distinct_filter t ys (distinct_right xs ys d)) (all_filter (λ id. is_listed xs id ≡ false) t ys (distinct_apart xs ys d))

pub distinct_fewer_left : (t : Hash32 → Bool) (xs ys : List Hash32) → AreDistinctIds (xs ++ ys) → AreDistinctIds (filter t xs ++ ys)
distinct_fewer_left t xs ys d =
    distinct_both (filter t xs) ys (distinct_filter t xs (distinct_left xs ys d)) (distinct_right xs ys d)
    (all_weaker (λ id. is_listed xs id ≡ false) (λ id. is_listed (filter t xs) id ≡ false) (λ id h. unlisted_filter t xs id h) ys (distinct_apart xs ys d))

pub distinct_swap : (xs ys : List Hash32) → AreDistinctIds (xs ++ ys) → AreDistinctIds (ys ++ xs)
distinct_swap xs ys d =
    distinct_both ys xs (distinct_right xs ys d) (distinct_left xs ys d)
    (listed_all (λ id. is_listed ys id ≡ false) xs (λ id h. false_from_ne_true (is_listed ys id) (λ k. both_ways (is_listed xs id) (all_listed (λ z. is_listed xs z ≡ false) ys (distinct_apart xs ys d) id k) h)))
