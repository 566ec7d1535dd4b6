-- Which ids members have, and members without ids.
use Rattle.std.proofs.Common.{◌≡◌, ◌++◌, ◌||◌, not, Bool, true, false, cond, List, [], ◌∷◌, Some, find, filter, option_map, refl, sym, ap, ◌∙◌}
use Rattle.std.specs.Option.{is_some}
use Rattle.std.proofs.lemmas.Cmp.{nat_list_eq_equiv}
use Rattle.base_types.specs.declared.lists.Hash32.{Hash32}
use Rattle.pool_rules.specs.Pools.{is_same_id, is_listed}
use Rattle.pool_rules.specs.Snapshots.{Member, ids_of, without_member}
use Rattle.pool_laws.proofs.IdLists.{listed_append}

-- an id is listed where it has a short id
pub listed_found : (ms : List Member) (id : Hash32) → is_listed (ids_of ms) id ≡ is_some (option_map (λ m. m.short) (find (λ m. is_same_id m.id id) ms))
listed_found [] id = refl
listed_found (m ∷ ms) id = by_head (is_same_id m.id id) (listed_found ms id)
  where
    by_head : (b : Bool) → is_listed (ids_of ms) id ≡ is_some (option_map (λ m. m.short) (find (λ m. is_same_id m.id id) ms))
        → (b || is_listed (ids_of ms) id) ≡ is_some (option_map (λ m. m.short) (cond b (Some m) (find (λ m. is_same_id m.id id) ms)))
    by_head true rest = refl
    by_head false rest = rest

-- two filters, and the one that asks both
filter_twice : {X : Type 0} (p q r : X → Bool) → ((x : X) → r x ≡ cond (q x) (p x) false) → (xs : List X) → filter p (filter q xs) ≡ filter r xs
filter_twice p q r f [] = refl
filter_twice p q r f (x ∷ xs) = by_head (q x) (p x) refl (f x) (filter_twice p q r f xs)
  where
    by_head : (b c : Bool) → p x ≡ c → r x ≡ cond b (p x) false → filter p (filter q xs) ≡ filter r xs
        → filter p (cond b (x ∷ filter q xs) (filter q xs)) ≡ cond (r x) (x ∷ filter r xs) (filter r xs)
    by_head false c h k rest = rest ∙ ap (λ d. cond d (x ∷ filter r xs) (filter r xs)) (sym k)
    by_head true true h k rest =
        ap (λ d. cond d (x ∷ filter p (filter q xs)) (filter p (filter q xs))) h
        ∙ ap (λ zs. x ∷ zs) rest
        ∙ ap (λ d. cond d (x ∷ filter r xs) (filter r xs)) (sym (k ∙ h))
    by_head true false h k rest =
        ap (λ d. cond d (x ∷ filter p (filter q xs)) (filter p (filter q xs))) h
        ∙ rest
        ∙ ap (λ d. cond d (x ∷ filter r xs) (filter r xs)) (sym (k ∙ h))

-- ---- ids one after another

pub without_ids-none : (ms : List Member) → filter (λ m. not (is_listed [] m.id)) ms ≡ ms
without_ids-none [] = refl
without_ids-none (m ∷ ms) = ap (λ zs. m ∷ zs) (without_ids-none ms)

pub without_ids-more : (ms : List Member) (ids : List Hash32) (id : Hash32) → without_member (filter (λ m. not (is_listed ids m.id)) ms) id ≡ filter (λ m. not (is_listed (ids ++ id ∷ []) m.id)) ms
without_ids-more ms ids id = filter_twice (λ m. not (is_same_id m.id id)) (λ m. not (is_listed ids m.id)) (λ m. not (is_listed (ids ++ id ∷ []) m.id)) each ms
  where
    by_both : (b c : Bool) → not (b || (c || false)) ≡ cond (not b) (not c) false
    by_both true c = refl
    by_both false true = refl
    by_both false false = refl

    each : (m : Member) → not (is_listed (ids ++ id ∷ []) m.id) ≡ cond (not (is_listed ids m.id)) (not (is_same_id m.id id)) false
    each m =
        ap not (listed_append ids (id ∷ []) m.id ∙ ap (λ b. is_listed ids m.id || (b || false)) (nat_list_eq_equiv.symm id.0 m.id.0))
        ∙ by_both (is_listed ids m.id) (is_same_id m.id id)
