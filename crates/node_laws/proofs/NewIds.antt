-- The ids of an announcement that are new: they are unknown, none stands twice, and they may be found from the left as well,
-- where what was new before is known to those behind it.
use Rattle.std.proofs.Common.{◌≡◌, ◌||◌, Bool, true, false, not, List, [], ◌∷◌, if◌then◌else◌, refl, sym, ap, ◌∙◌}
use Rattle.std.specs.List.{AllByRecursion}
use Rattle.std.proofs.lemmas.Bool.{cond_both}
use Rattle.base_types.specs.declared.lists.Hash32.{Hash32}
use Rattle.pool_rules.specs.Pools.{is_same_id, without_id, AreDistinctIds}
use Rattle.pool_laws.proofs.IdLists.{is_same_id-equal, distinct_filter, gone}
use Rattle.id_rules.proofs.Lists.{all_filter, filter_yes, filter_no, filter_swap, filter_twice}
use Rattle.node_rules.specs.Inventory.{new_ids}

-- a list without an id
pub without_kept : (P : Hash32 → Type 0) (ids : List Hash32) (id : Hash32) → AllByRecursion P ids → AllByRecursion P (without_id ids id)
without_kept P ids id h = all_filter P (λ other. not (is_same_id other id)) ids h

pub new_unknown : (known : Hash32 → Bool) (ids : List Hash32) → AllByRecursion (λ id. known id ≡ false) (new_ids known ids)
unfolding new_ids
new_unknown known [] = tt
new_unknown known (x ∷ xs) =
    cond_both (known x) (new_ids known xs) (x ∷ without_id (new_ids known xs) x) (AllByRecursion (λ id. known id ≡ false)) (λ e. new_unknown known xs) (λ e. (e, without_kept (λ id. known id ≡ false) (new_ids known xs) x (new_unknown known xs)))

pub new_kept : (P : Hash32 → Type 0) (known : Hash32 → Bool) (ids : List Hash32) → AllByRecursion P ids → AllByRecursion P (new_ids known ids)
unfolding new_ids
new_kept P known [] h = tt
new_kept P known (x ∷ xs) h =
    cond_both (known x) (new_ids known xs) (x ∷ without_id (new_ids known xs) x) (AllByRecursion P) (λ e. new_kept P known xs h.1) (λ e. (h.0, without_kept P (new_ids known xs) x (new_kept P known xs h.1)))

pub new_distinct : (known : Hash32 → Bool) (ids : List Hash32) → AreDistinctIds (new_ids known ids)
unfolding new_ids AreDistinctIds
new_distinct known [] = tt
new_distinct known (x ∷ xs) =
    cond_both (known x) (new_ids known xs) (x ∷ without_id (new_ids known xs) x) AreDistinctIds (λ e. new_distinct known xs)
    (λ e. (ap not (gone (new_ids known xs) x), distinct_filter (λ other. not (is_same_id other x)) (new_ids known xs) (new_distinct known xs)))

module _ (known : Hash32 → Bool) (id : Hash32) where
  abbrev knows : Hash32 → Bool
  knows other = known other || is_same_id other id

  abbrev old : List Hash32 → List Hash32
  old ids = new_ids known ids

  front_by : (k e : Bool) (x : Hash32) (xs : List Hash32) → known x ≡ k → is_same_id x id ≡ e → new_ids knows xs ≡ without_id (old xs) id
      → (if k || e then new_ids knows xs else x ∷ without_id (new_ids knows xs) x) ≡ without_id (if k then old xs else x ∷ without_id (old xs) x) id
  front_by true e x xs ek ee more = more
  front_by false true x xs ek ee more =
      more
      ∙ (sym (filter_twice (λ other. not (is_same_id other id)) (old xs))
      ∙ (ap (λ y. without_id (without_id (old xs) y) id) (sym (is_same_id-equal x id ee))
      ∙ sym (filter_no (λ other. not (is_same_id other id)) x (without_id (old xs) x) (ap not ee))))
  front_by false false x xs ek ee more =
      ap (λ ys. x ∷ without_id ys x) more
      ∙ (ap (λ ys. x ∷ ys) (filter_swap (λ other. not (is_same_id other x)) (λ other. not (is_same_id other id)) (old xs))
      ∙ sym (filter_yes (λ other. not (is_same_id other id)) x (without_id (old xs) x) (ap not ee)))

  -- where one id more is known, those that are new are the others
  pub new_ids-known : (ids : List Hash32) → new_ids knows ids ≡ without_id (old ids) id
  unfolding new_ids
  new_ids-known [] = refl
  new_ids-known (x ∷ xs) = front_by (known x) (is_same_id x id) x xs refl refl (new_ids-known xs)
