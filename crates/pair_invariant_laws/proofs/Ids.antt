-- Lists without an id, and the ids of an announcement that are new.
use Rattle.std.proofs.Common.{◌≡◌, ◌||◌, not, Bool, true, false, cond, List, [], ◌∷◌, refl, sym, ap, ◌∙◌, subst, ⊎_elim}
use Rattle.std.proofs.lemmas.Bool.{or_cases, or_left, or_right, or_parts, not-true, not-false, both_ways, false_from_ne_true, cond_both}
use Rattle.base_types.specs.declared.lists.Hash32.{Hash32}
use Rattle.pool_rules.specs.Pools.{is_same_id, is_listed, without_id, AreDistinctIds}
use Rattle.pool_laws.proofs.IdLists.{is_same_id-self, is_same_id-equal}
use Rattle.node_rules.specs.Inventory.{new_ids}

-- one of two, by its tests
pub false_or : (a b : Bool) → a ≡ false → (a || b) ≡ true → b ≡ true
false_or true b e h = absurd (let apart : true ≡ false = e in cc)
false_or false b e h = h

pub listed_head : (x : Hash32) (xs : List Hash32) → is_listed (x ∷ xs) x ≡ true
listed_head x xs = or_left (is_same_id x x) (is_listed xs x) (is_same_id-self x)

-- ---- a list without an id

-- an id that isn't listed leaves the list as it is
without_absent : (id : Hash32) (ids : List Hash32) → is_listed ids id ≡ false → without_id ids id ≡ ids
without_absent id [] h = refl
without_absent id (x ∷ xs) h =
    let s = or_parts (is_same_id x id) (is_listed xs id) h in
    ap (λ b. cond (not b) (x ∷ without_id xs id) (without_id xs id)) s.0 ∙ ap (λ ys. x ∷ ys) (without_absent id xs s.1)

-- the first of the ids goes
pub without_first : (id : Hash32) (ids : List Hash32) → AreDistinctIds (id ∷ ids) → without_id (id ∷ ids) id ≡ ids
unfolding AreDistinctIds
without_first id ids d = ap (λ b. cond (not b) (id ∷ without_id ids id) (without_id ids id)) (is_same_id-self id) ∙ without_absent id ids (not-true (is_listed ids id) d.0)

-- another id stays
pub without_listed : (ids : List Hash32) (x id : Hash32) → is_same_id x id ≡ false → is_listed ids id ≡ true → is_listed (without_id ids x) id ≡ true
without_listed [] x id differ h = h
without_listed (y ∷ ys) x id differ h =
    cond_both (not (is_same_id y x)) (y ∷ without_id ys x) (without_id ys x) (λ zs. is_listed zs id ≡ true)
    (λ e. ⊎_elim (λ here. or_left (is_same_id y id) (is_listed (without_id ys x) id) here) (λ later. or_right (is_same_id y id) (is_listed (without_id ys x) id) (without_listed ys x id differ later)) (or_cases (is_same_id y id) (is_listed ys id) h))
    (λ e. without_listed ys x id differ
    (false_or (is_same_id y id) (is_listed ys id) (subst (λ z. is_same_id z id ≡ false) (sym (is_same_id-equal y x (not-false (is_same_id y x) e))) differ) h))

-- ---- the ids that are new

new_head : (b : Bool) (x : Hash32) (ns : List Hash32) (id : Hash32) → is_same_id x id ≡ b → (is_same_id x id ≡ false → is_listed ns id ≡ true) → is_listed (x ∷ without_id ns x) id ≡ true
new_head true x ns id e rest = or_left (is_same_id x id) (is_listed (without_id ns x) id) e
new_head false x ns id e rest = or_right (is_same_id x id) (is_listed (without_id ns x) id) (without_listed ns x id e (rest e))

-- an id that isn't known and is among these is new
pub new_has : (known : Hash32 → Bool) (ids : List Hash32) (id : Hash32) → is_listed ids id ≡ true → known id ≡ false → is_listed (new_ids known ids) id ≡ true
unfolding new_ids
new_has known [] id h e = h
new_has known (x ∷ xs) id h e =
    cond_both (known x) (new_ids known xs) (x ∷ without_id (new_ids known xs) x) (λ zs. is_listed zs id ≡ true)
    (λ k. new_has known xs id (false_or (is_same_id x id) (is_listed xs id) (false_from_ne_true (is_same_id x id) (λ s. both_ways (known id) e (subst (λ z. known z ≡ true) (is_same_id-equal x id s) k))) h) e)
    (λ k. new_head (is_same_id x id) x (new_ids known xs) id refl (λ differ. new_has known xs id (false_or (is_same_id x id) (is_listed xs id) differ h) e))
