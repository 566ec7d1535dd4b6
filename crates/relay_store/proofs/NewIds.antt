-- The new ids of an announcement, one entry more.
use Rattle.std.proofs.Common.{◌≡◌, ◌||◌, ◌&&◌, not, Bool, true, false, cond, List, [], ◌∷◌, ◌++◌, append-nil, refl, sym, ap, ◌∙◌, subst}
use Rattle.std.proofs.lemmas.Bool.{and_parts, or_parts, not-true}
use Rattle.std.proofs.lemmas.Cmp.{nat_list_eq_equiv}
use Rattle.std.proofs.lemmas.List.Elements.{filter-append}
use Rattle.base_types.specs.declared.lists.Hash32.{Hash32}
use Rattle.wire_rules.specs.declared.message.InvEntry.{InvEntry}
use Rattle.pool_rules.specs.Pools.{is_same_id, is_listed, without_id}
use Rattle.pool_laws.proofs.IdLists.{is_same_id-equal}
use Rattle.node_rules.specs.Inventory.{is_tx_entry, wtxids_of, new_ids}
use Rattle.relay_store.proofs.Entries.{wtxids_more, wtxids_same}

-- an id without another one
listed_without : (ids : List Hash32) (y x : Hash32) → is_same_id y x ≡ false → is_listed (without_id ids y) x ≡ is_listed ids x
listed_without [] y x apart = refl
listed_without (z ∷ zs) y x apart = by_head (is_same_id z y) refl (listed_without zs y x apart)
  where
    by_head : (b : Bool) → is_same_id z y ≡ b → is_listed (without_id zs y) x ≡ is_listed zs x → is_listed (cond (not b) (z ∷ without_id zs y) (without_id zs y)) x ≡ (is_same_id z x || is_listed zs x)
    by_head true e rest = rest ∙ sym (ap (λ b. b || is_listed zs x) (subst (λ w. is_same_id w x ≡ false) (sym (is_same_id-equal z y e)) apart))
    by_head false e rest = ap (λ b. is_same_id z x || b) rest

without_more : (ids : List Hash32) (y x : Hash32) (b : Bool) → is_same_id y x ≡ b → without_id (ids ++ x ∷ []) y ≡ without_id ids y ++ cond (not b) (x ∷ []) []
without_more ids y x b e =
    filter-append (λ other. not (is_same_id other y)) ids (x ∷ []) ∙ ap (λ c. without_id ids y ++ cond (not c) (x ∷ []) []) (nat_list_eq_equiv.symm x.0 y.0 ∙ e)

module _ (known : Hash32 → Bool) (x : Hash32) where
  -- by whether it is known or among those found
  abbrev with_next : Bool → List Hash32 → List Hash32
  with_next b ids = cond b ids (ids ++ x ∷ [])

  step : (k m l : Bool) (y : Hash32) (old new : List Hash32) → is_same_id y x ≡ m → is_listed old x ≡ l → new ≡ with_next (k || l) old
      → y ∷ without_id new y ≡ with_next (k || (m || is_listed (without_id old y) x)) (y ∷ without_id old y)
  step true m l y old new same among rest = ap (λ zs. y ∷ without_id zs y) rest
  step false true true y old new same among rest = ap (λ zs. y ∷ without_id zs y) rest
  step false true false y old new same among rest = ap (λ zs. y ∷ without_id zs y) rest ∙ ap (λ zs. y ∷ zs) (without_more old y x true same ∙ append-nil (without_id old y))
  step false false true y old new same among rest =
      ap (λ zs. y ∷ without_id zs y) rest ∙ ap (λ b. with_next b (y ∷ without_id old y)) (sym (listed_without old y x same ∙ among))
  step false false false y old new same among rest =
      ap (λ zs. y ∷ without_id zs y) rest ∙ ap (λ zs. y ∷ zs) (without_more old y x false same) ∙ ap (λ b. with_next b (y ∷ without_id old y)) (sym (listed_without old y x same ∙ among))

  pub new_ids_more : (ids : List Hash32) → new_ids known (ids ++ x ∷ []) ≡ with_next (known x || is_listed (new_ids known ids) x) (new_ids known ids)
  unfolding new_ids
  new_ids_more [] = by_test (known x)
    where
      by_test : (b : Bool) → cond b [] (x ∷ []) ≡ cond (b || false) [] (x ∷ [])
      by_test true = refl
      by_test false = refl
  new_ids_more (y ∷ ys) = by_head (known y) (new_ids_more ys)
    where
      by_head : (b : Bool) → new_ids known (ys ++ x ∷ []) ≡ with_next (known x || is_listed (new_ids known ys) x) (new_ids known ys)
          → cond b (new_ids known (ys ++ x ∷ [])) (y ∷ without_id (new_ids known (ys ++ x ∷ [])) y)
          ≡ with_next (known x || is_listed (cond b (new_ids known ys) (y ∷ without_id (new_ids known ys) y)) x) (cond b (new_ids known ys) (y ∷ without_id (new_ids known ys) y))
      by_head true rest = rest
      by_head false rest = step (known x) (is_same_id y x) (is_listed (new_ids known ys) x) y (new_ids known ys) (new_ids known (ys ++ x ∷ [])) refl refl rest

-- an entry of a transaction that isn't known, and one that isn't new
module _ (known : Hash32 → Bool) (es : List InvEntry) (e : InvEntry) (found : List Hash32) (so_far : found ≡ new_ids known (wtxids_of es)) where
  abbrev is_old : Bool
  is_old = known e.id || is_listed found e.id

  found_next : is_tx_entry e ≡ true → (b : Bool) → is_old ≡ b → cond b found (found ++ e.id ∷ []) ≡ new_ids known (wtxids_of (es ++ e ∷ []))
  found_next tx b is =
      sym
      (ap (new_ids known) (wtxids_more es e tx)
      ∙ new_ids_more known e.id (wtxids_of es)
      ∙ ap (λ zs. cond (known e.id || is_listed zs e.id) zs (zs ++ e.id ∷ [])) (sym so_far)
      ∙ ap (λ c. cond c found (found ++ e.id ∷ [])) is)

  pub new_next : (is_tx_entry e && not is_old) ≡ true → found ++ e.id ∷ [] ≡ new_ids known (wtxids_of (es ++ e ∷ []))
  new_next h = let parts = and_parts (is_tx_entry e) (not is_old) h in found_next parts.0 false (not-true is_old parts.1)

  pub new_unlisted : (is_tx_entry e && not is_old) ≡ true → is_listed found e.id ≡ false
  new_unlisted h = (or_parts (known e.id) (is_listed found e.id) (not-true is_old (and_parts (is_tx_entry e) (not is_old) h).1)).1

  pub new_stay : (is_tx_entry e && not is_old) ≡ false → found ≡ new_ids known (wtxids_of (es ++ e ∷ []))
  new_stay h = by_tests (is_tx_entry e) is_old refl refl h
    where
      by_tests : (t b : Bool) → is_tx_entry e ≡ t → is_old ≡ b → (t && not b) ≡ false → found ≡ new_ids known (wtxids_of (es ++ e ∷ []))
      by_tests false b tx is k = so_far ∙ ap (new_ids known) (sym (wtxids_same es e tx))
      by_tests true true tx is k = found_next tx true is
      by_tests true false tx is k = absurd (let apart : true ≡ false = k in cc)
