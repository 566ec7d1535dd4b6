-- The room that a node's pool and open wants take.
use Rattle.std.proofs.Common.{◌≡◌, ⊎_elim, ℕ, suc, ◌+◌, ◌≤◌, not, Bool, true, false, cond, List, [], ◌∷◌, ◌++◌, length, filter, refl, sym, ap, ◌∙◌, subst, arith}
use Rattle.std.specs.List.{AllByRecursion}
use Rattle.std.proofs.lemmas.Bool.{or_cases, or_left, or_right, not-true, both_ways, false_from_ne_true}
use Rattle.std.proofs.lemmas.List.{length-append}
use Rattle.std.proofs.lemmas.List.Elements.{filter-append}
use Rattle.base_types.specs.declared.lists.Hash32.{Hash32}
use Rattle.pool_rules.specs.Pools.{Transaction, is_same_id, is_listed, is_in_pool}
use Rattle.pool_laws.proofs.IdLists.{is_same_id-equal, is_same_id-self}
use Rattle.pool_laws.proofs.PoolIds.{in_pool_append, in_pool_more}
use Rattle.id_rules.proofs.Lists.{filter_few, filter_swap}

-- how many ids a pool lacks
abbrev pub lack : List Transaction → List Hash32 → ℕ
lack pool ids = length (filter (λ id. not (is_in_pool pool id)) ids)

pub lack_append : (pool : List Transaction) (xs ys : List Hash32) → lack pool (xs ++ ys) ≡ lack pool xs + lack pool ys
lack_append pool xs ys = ap length (filter-append (λ id. not (is_in_pool pool id)) xs ys) ∙ length-append (filter (λ id. not (is_in_pool pool id)) xs) (filter (λ id. not (is_in_pool pool id)) ys)

-- by two tests of which the first passes where the second does
lack_two : (a b : Bool) (x : Hash32) (xs ys : List Hash32) → (a ≡ true → b ≡ true) → length xs ≤ length ys → length (cond a (x ∷ xs) xs) ≤ length (cond b (x ∷ ys) ys)
lack_two true true x xs ys h le = omega arith
lack_two true false x xs ys h le = absurd (let apart : false ≡ true = h refl in cc)
lack_two false true x xs ys h le = omega arith
lack_two false false x xs ys h le = le

not_more : (pool more : List Transaction) (id : Hash32) → not (is_in_pool (pool ++ more) id) ≡ true → not (is_in_pool pool id) ≡ true
not_more pool more id h =
    let out : is_in_pool (pool ++ more) id ≡ false = not-true (is_in_pool (pool ++ more) id) h in
    ap not (false_from_ne_true (is_in_pool pool id) (λ e. both_ways (is_in_pool (pool ++ more) id) out (in_pool_more pool more id e)))

pub lack_grow : (pool more : List Transaction) (ids : List Hash32) → lack (pool ++ more) ids ≤ lack pool ids
lack_grow pool more [] = omega arith
lack_grow pool more (x ∷ xs) =
    lack_two (not (is_in_pool (pool ++ more) x)) (not (is_in_pool pool x)) x (filter (λ id. not (is_in_pool (pool ++ more) id)) xs) (filter (λ id. not (is_in_pool pool id)) xs) (not_more pool more x) (lack_grow pool more xs)

-- a list without some of its ids lacks no more
pub lack_filter : (pool : List Transaction) (t : Hash32 → Bool) (ids : List Hash32) → lack pool (filter t ids) ≤ lack pool ids
lack_filter pool t ids =
    let out : Hash32 → Bool = λ id. not (is_in_pool pool id) in
    subst (λ xs. length xs ≤ lack pool ids) (sym (filter_swap out t ids)) (filter_few t (filter out ids))

-- one id that the pool lacked is lacked no more
pub lack_taken : (pool : List Transaction) (t : Transaction) (ids : List Hash32) → is_listed ids t.id ≡ true → is_in_pool pool t.id ≡ false → lack (pool ++ t ∷ []) ids + 1 ≤ lack pool ids
lack_taken pool t [] h out = absurd (let apart : false ≡ true = h in cc)
lack_taken pool t (x ∷ xs) h out =
    ⊎_elim
    (λ same.
    let here : x ≡ t.id = is_same_id-equal x t.id same in
    let old : is_in_pool pool x ≡ false = subst (λ z. is_in_pool pool z ≡ false) (sym here) out in
    let new : is_in_pool (pool ++ t ∷ []) x ≡ true = subst (λ z. is_in_pool (pool ++ t ∷ []) z ≡ true) (sym here) (in_pool_append pool (t ∷ []) t.id ∙ or_right (is_in_pool pool t.id) (is_in_pool (t ∷ []) t.id) (or_left (is_same_id t.id t.id) false (is_same_id-self t.id))) in
    let less = lack_grow pool (t ∷ []) xs in
    let was : lack pool (x ∷ xs) ≡ suc (lack pool xs) = ap (λ b. length (cond (not b) (x ∷ filter (λ id. not (is_in_pool pool id)) xs) (filter (λ id. not (is_in_pool pool id)) xs))) old in
    let is : lack (pool ++ t ∷ []) (x ∷ xs) ≡ lack (pool ++ t ∷ []) xs = ap (λ b. length (cond (not b) (x ∷ filter (λ id. not (is_in_pool (pool ++ t ∷ []) id)) xs) (filter (λ id. not (is_in_pool (pool ++ t ∷ []) id)) xs))) new in
    omega (arith, was, is, less))
    (λ later.
    let less = lack_taken pool t xs later out in
    one_less (not (is_in_pool (pool ++ t ∷ []) x)) (not (is_in_pool pool x)) x (filter (λ id. not (is_in_pool (pool ++ t ∷ []) id)) xs) (filter (λ id. not (is_in_pool pool id)) xs) (not_more pool (t ∷ []) x) less)
    (or_cases (is_same_id x t.id) (is_listed xs t.id) h)
  where
    one_less : (a b : Bool) (x : Hash32) (xs ys : List Hash32) → (a ≡ true → b ≡ true) → length xs + 1 ≤ length ys → length (cond a (x ∷ xs) xs) + 1 ≤ length (cond b (x ∷ ys) ys)
    one_less true true x xs ys h le = omega arith
    one_less true false x xs ys h le = absurd (let apart : false ≡ true = h refl in cc)
    one_less false true x xs ys h le = omega arith
    one_less false false x xs ys h le = le

-- where a pool has none of them, it lacks all
pub lack_all : (pool : List Transaction) (ids : List Hash32) → AllByRecursion (λ id. not (is_in_pool pool id) ≡ true) ids → lack pool ids ≡ length ids
lack_all pool [] h = refl
lack_all pool (x ∷ xs) h = ap (λ b. length (cond b (x ∷ filter (λ id. not (is_in_pool pool id)) xs) (filter (λ id. not (is_in_pool pool id)) xs))) h.0 ∙ ap suc (lack_all pool xs h.1)
