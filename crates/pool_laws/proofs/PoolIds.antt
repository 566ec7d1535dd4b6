-- Ids in a pool, and the transactions that they are of.
use Rattle.std.proofs.Common.{◌≡◌, ◌≤◌, ◌||◌, ℕ, Some, option_map, find, Bool, true, false, cond, List, [], ◌∷◌, ◌++◌, length, refl, sym, ap, ◌∙◌, subst}
use Rattle.std.specs.Cmp.{IsEquivalence}
use Rattle.std.specs.List.{AllByRecursion, IsDistinct}
use Rattle.std.proofs.lemmas.Bool.{or_left, or_right, or_parts, not-true}
use Rattle.std.proofs.lemmas.Cmp.{nat_list_eq_equiv}
use Rattle.std.proofs.lemmas.List.{length-map, map-append}
use Rattle.std.proofs.lemmas.List.Folds.{list_any-append}
use Rattle.std.proofs.lemmas.Map.Made.{length-le_from_is_member}
use Rattle.base_types.specs.declared.lists.Hash32.{Hash32}
use Rattle.pool_rules.specs.Pools.{Transaction, is_same_id, is_listed, AreDistinctIds, is_in_pool, bytes_of_id, pool_ids}
use Rattle.pool_laws.proofs.IdLists.{is_same_id-self, is_same_id-equal, all_listed}
use Rattle.id_rules.proofs.Lists.{all_weaker}

-- an id is in a pool where it is among its ids
pub is_in_pool-is_listed : (pool : List Transaction) (id : Hash32) → is_in_pool pool id ≡ is_listed (pool_ids pool) id
is_in_pool-is_listed [] id = refl
is_in_pool-is_listed (t ∷ ts) id = ap (λ b. is_same_id t.id id || b) (is_in_pool-is_listed ts id)

pub in_pool_append : (xs ys : List Transaction) (id : Hash32) → is_in_pool (xs ++ ys) id ≡ (is_in_pool xs id || is_in_pool ys id)
in_pool_append xs ys id = list_any-append (λ t. is_same_id t.id id) xs ys

pub in_pool_more : (xs ys : List Transaction) (id : Hash32) → is_in_pool xs id ≡ true → is_in_pool (xs ++ ys) id ≡ true
in_pool_more xs ys id h = in_pool_append xs ys id ∙ or_left (is_in_pool xs id) (is_in_pool ys id) h

pub pool_ids_append : (xs ys : List Transaction) → pool_ids (xs ++ ys) ≡ pool_ids xs ++ pool_ids ys
pool_ids_append xs ys = map-append (λ t. t.id) xs ys

pub in_own_pool : (pool : List Transaction) → AllByRecursion (λ id. is_in_pool pool id ≡ true) (pool_ids pool)
in_own_pool [] = tt
in_own_pool (t ∷ ts) = (
  or_left (is_same_id t.id t.id) (is_in_pool ts t.id) (is_same_id-self t.id),
  all_weaker (λ id. is_in_pool ts id ≡ true) (λ id. is_in_pool (t ∷ ts) id ≡ true) (λ id e. or_right (is_same_id t.id id) (is_in_pool ts id) e) (pool_ids ts) (in_own_pool ts),
)

-- ---- no more distinct ids than a pool has

-- the second of two ids, compared with the first, as in `listed`
is_same : Hash32 → Hash32 → Bool
is_same a b = is_same_id b a

same_equivalence : IsEquivalence is_same
unfolding is_same
same_equivalence = record {
  refl = is_same_id-self;
  symm = λ x y. nat_list_eq_equiv.symm y.0 x.0;
  congr = λ x y z e. ap (is_same_id z) (sym (is_same_id-equal y x e));
}

unequal : (x : Hash32) (xs : List Hash32) → is_listed xs x ≡ false → AllByRecursion (λ y. is_same x y ≡ false) xs
unfolding is_same
unequal x [] h = tt
unequal x (y ∷ ys) h = let parts = or_parts (is_same_id y x) (is_listed ys x) h in (parts.0, unequal x ys parts.1)

once_ids : (ids : List Hash32) → AreDistinctIds ids → IsDistinct is_same ids
unfolding AreDistinctIds IsDistinct
once_ids [] d = tt
once_ids (x ∷ xs) d = (unequal x xs (not-true (is_listed xs x) d.0), once_ids xs d.1)

pub ids_within : (ids : List Hash32) (pool : List Transaction) → AreDistinctIds ids → AllByRecursion (λ id. is_in_pool pool id ≡ true) ids → length ids ≤ length pool
unfolding is_same
ids_within ids pool d h =
    subst (λ n. length ids ≤ n) (length-map pool (λ t. t.id))
    (length-le_from_is_member same_equivalence ids (pool_ids pool) (once_ids ids d) (λ q e. sym (is_in_pool-is_listed pool q) ∙ all_listed (λ id. is_in_pool pool id ≡ true) ids h q e))

-- ---- the transaction of an id

-- it is the first one's, where that has the id, or a later one's
pub first_or_later : (C : Type 0) (t : Transaction) (ts : List Transaction) (id : Hash32) (tx : List ℕ) → bytes_of_id (t ∷ ts) id ≡ Some tx → (is_same_id t.id id ≡ true → t.bytes ≡ tx → C) → (bytes_of_id ts id ≡ Some tx → C) → C
first_or_later C t ts id tx e first later = by_first (is_same_id t.id id) refl e
  where
    by_first : (b : Bool) → is_same_id t.id id ≡ b → option_map (λ x. x.bytes) (cond b (Some t) (find (λ x. is_same_id x.id id) ts)) ≡ Some tx → C
    by_first true same k = first same (let bytes : t.bytes ≡ tx = cc in bytes)
    by_first false same k = later k
