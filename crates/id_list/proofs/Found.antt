-- The entry of an id.
use Rattle.std.proofs.Common.{◌≡◌, ◌++◌, ◌||◌, ℕ, not, Bool, true, false, cond, List, [], ◌∷◌, Some, None, Less, option_map, Option, refl, sym, ap, subst, ◌∙◌}
use Rattle.std.specs.Ordering.{nat_cmp, is_eq}
use Rattle.std.specs.Option.{is_some}
use Rattle.std.specs.List.Sorted.{IsStrictlySortedBy}
use Rattle.std.specs.Map.{keys_of, remove_entry}
use Rattle.std.specs.BTreeMap.{is_at}
use Rattle.std.proofs.lemmas.Bool.{not-true, both_ways, or_parts, true≢false}
use Rattle.std.proofs.lemmas.Cmp.{nat_list_eq_equiv}
use Rattle.base_types.specs.declared.lists.Hash32.{Hash32}
use Rattle.pool_rules.specs.Pools.{is_same_id, is_listed, without_id, AreDistinctIds}
use Rattle.pool_laws.proofs.IdLists.{is_same_id-self, is_same_id-equal, listed_append}
use Rattle.id_list.specs.declared.list.Entry.{Entry}
use Rattle.id_list.specs.Entries.{ids_in, entry_of_id, without_entry, without_entries}
use Rattle.id_list.proofs.Places.{equal, apart, found_key}

-- the first passes, or a later one
or_some : {X : Type 0} (b c : Bool) (x : X) (o : Option X) → c ≡ is_some o → (b || c) ≡ is_some (cond b (Some x) o)
or_some true c x o h = refl
or_some false c x o h = h

either_way : {X : Type 0} (b : Bool) (x : X) → x ≡ cond b x x
either_way true x = refl
either_way false x = refl

-- two ids are the same in either order
is_same_id-turned : (a b : Hash32) → is_same_id a b ≡ is_same_id b a
is_same_id-turned a b = nat_list_eq_equiv.symm a.0 b.0

module _ {V : Type 0} where
  -- an id is listed where it has an entry
  pub is_listed-is_some : (es : List (ℕ × Entry V)) (id : Hash32) → is_listed (ids_in es) id ≡ is_some (entry_of_id es id)
  is_listed-is_some [] id = refl
  is_listed-is_some (e ∷ es) id = or_some (is_same_id e.1.id id) (is_listed (ids_in es) id) e (entry_of_id es id) (is_listed-is_some es id)

  pub is_some-place : (es : List (ℕ × Entry V)) (id : Hash32) → is_some (option_map (λ e. e.0) (entry_of_id es id)) ≡ is_listed (ids_in es) id
  is_some-place es id = by_entry (entry_of_id es id) ∙ sym (is_listed-is_some es id)
    where
      by_entry : (o : Option (ℕ × Entry V)) → is_some (option_map (λ e. e.0) o) ≡ is_some o
      by_entry None = refl
      by_entry (Some e) = refl

  -- what isn't listed has no entry
  pub entry_of_id-none : (es : List (ℕ × Entry V)) (id : Hash32) → is_listed (ids_in es) id ≡ false → entry_of_id es id ≡ None
  entry_of_id-none es id out = by_entry (entry_of_id es id) (sym (is_listed-is_some es id) ∙ out)
    where
      by_entry : (o : Option (ℕ × Entry V)) → is_some o ≡ false → o ≡ None
      by_entry None h = refl
      by_entry (Some e) h = absurd (true≢false h)

  -- nor has a list without it fewer
  pub without_entry-none : (es : List (ℕ × Entry V)) (id : Hash32) → is_listed (ids_in es) id ≡ false → without_entry es id ≡ es
  without_entry-none [] id out = refl
  without_entry-none (e ∷ es) id out =
      let parts = or_parts (is_same_id e.1.id id) (is_listed (ids_in es) id) out in
      ap (λ b. cond (not b) (e ∷ without_entry es id) (without_entry es id)) parts.0 ∙ ap (λ zs. e ∷ zs) (without_entry-none es id parts.1)

  -- what is taken out at the place of an id is its entry
  pub remove_entry-id : (es : List (ℕ × Entry V)) (id : Hash32) (e : ℕ × Entry V) → AreDistinctIds (ids_in es) → IsStrictlySortedBy nat_cmp (keys_of es) → entry_of_id es id ≡ Some e
      → remove_entry (is_at (nat_cmp e.0)) es ≡ without_entry es id
  unfolding AreDistinctIds IsStrictlySortedBy
  remove_entry-id [] id e d s f = cc
  remove_entry-id (x ∷ es) id e d s f = by_head (is_same_id x.1.id id) refl f (remove_entry-id es id e d.1 s.1)
    where
      by_head : (b : Bool) → is_same_id x.1.id id ≡ b → cond b (Some x) (entry_of_id es id) ≡ Some e
          → (entry_of_id es id ≡ Some e → remove_entry (is_at (nat_cmp e.0)) es ≡ without_entry es id)
          → cond (is_eq (nat_cmp e.0 x.0)) es (x ∷ remove_entry (is_at (nat_cmp e.0)) es) ≡ cond (not b) (x ∷ without_entry es id) (without_entry es id)
      by_head true h f rest =
          let same : x ≡ e = cc in
          let out : is_listed (ids_in es) id ≡ false = subst (λ z. is_listed (ids_in es) z ≡ false) (is_same_id-equal x.1.id id h) (not-true (is_listed (ids_in es) x.1.id) d.0) in
          subst (λ z. cond (is_eq (nat_cmp z.0 x.0)) es (x ∷ remove_entry (is_at (nat_cmp z.0)) es) ≡ es) same (ap (λ o. cond (is_eq o) es (x ∷ remove_entry (is_at (nat_cmp x.0)) es)) (equal x.0))
          ∙ sym (without_entry-none es id out)
      by_head false h f rest =
          ap (λ b. cond b es (x ∷ remove_entry (is_at (nat_cmp e.0)) es)) (apart x.0 e.0 (found_key (λ y. nat_cmp x.0 y ≡ Less) (λ e. is_same_id e.1.id id) es e s.0 f))
          ∙ ap (λ zs. x ∷ zs) (rest f)

  -- ---- the entries behind a change

  pub entry_of_id-append : (es : List (ℕ × Entry V)) (x : ℕ × Entry V) (id : Hash32) → is_listed (ids_in es) x.1.id ≡ false
      → entry_of_id (es ++ x ∷ []) id ≡ cond (is_same_id x.1.id id) (Some x) (entry_of_id es id)
  entry_of_id-append [] x id out = refl
  entry_of_id-append (e ∷ es) x id out =
      let parts = or_parts (is_same_id e.1.id x.1.id) (is_listed (ids_in es) x.1.id) out in
      ap (λ o. cond (is_same_id e.1.id id) (Some e) o) (entry_of_id-append es x id parts.1)
      ∙ swapped (is_same_id e.1.id id) (is_same_id x.1.id id)
      (λ first second. both_ways (is_same_id e.1.id x.1.id) parts.0 (subst (λ z. is_same_id z x.1.id ≡ true) (sym (is_same_id-equal e.1.id id first)) (subst (λ z. is_same_id id z ≡ true) (sym (is_same_id-equal x.1.id id second)) (is_same_id-self id))))
    where
      swapped : (b c : Bool) → (b ≡ true → c ≡ true → ⊥) → cond b (Some e) (cond c (Some x) (entry_of_id es id)) ≡ cond c (Some x) (cond b (Some e) (entry_of_id es id))
      swapped true true h = absurd (h refl refl)
      swapped true false h = refl
      swapped false true h = refl
      swapped false false h = refl

  pub entry_of_id-without : (es : List (ℕ × Entry V)) (gone id : Hash32) → entry_of_id (without_entry es gone) id ≡ cond (is_same_id gone id) None (entry_of_id es id)
  entry_of_id-without [] gone id = either_way (is_same_id gone id) None
  entry_of_id-without (e ∷ es) gone id = by_head (is_same_id e.1.id gone) (is_same_id e.1.id id) refl refl (entry_of_id-without es gone id)
    where
      same_as_gone : (b : Bool) → is_same_id e.1.id gone ≡ true → is_same_id e.1.id id ≡ b → is_same_id gone id ≡ b
      same_as_gone b h k = subst (λ z. is_same_id z id ≡ b) (is_same_id-equal e.1.id gone h) k

      by_head : (b c : Bool) → is_same_id e.1.id gone ≡ b → is_same_id e.1.id id ≡ c → entry_of_id (without_entry es gone) id ≡ cond (is_same_id gone id) None (entry_of_id es id)
          → entry_of_id (cond (not b) (e ∷ without_entry es gone) (without_entry es gone)) id ≡ cond (is_same_id gone id) None (cond c (Some e) (entry_of_id es id))
      by_head true true h k rest =
          rest ∙ ap (λ d. cond d None (entry_of_id es id)) (same_as_gone true h k) ∙ ap (λ d. cond d None (Some e)) (sym (same_as_gone true h k))
      by_head true false h k rest = rest
      by_head false true h k rest =
          ap (λ d. cond d (Some e) (entry_of_id (without_entry es gone) id)) k
          ∙ ap (λ d. cond d None (Some e)) (sym (apart_from_gone (is_same_id gone id) refl))
        where
          apart_from_gone : (d : Bool) → is_same_id gone id ≡ d → is_same_id gone id ≡ false
          apart_from_gone false z = z
          apart_from_gone true z = absurd (both_ways (is_same_id e.1.id gone) h (subst (λ y. is_same_id e.1.id y ≡ true) (sym (is_same_id-equal gone id z)) k))
      by_head false false h k rest = ap (λ d. cond d (Some e) (entry_of_id (without_entry es gone) id)) k ∙ rest

  -- ---- ids

  pub ids_in-without : (es : List (ℕ × Entry V)) (id : Hash32) → ids_in (without_entry es id) ≡ without_id (ids_in es) id
  ids_in-without [] id = refl
  ids_in-without (e ∷ es) id = by_head (is_same_id e.1.id id) (ids_in-without es id)
    where
      by_head : (b : Bool) → ids_in (without_entry es id) ≡ without_id (ids_in es) id → ids_in (cond (not b) (e ∷ without_entry es id) (without_entry es id)) ≡ cond (not b) (e.1.id ∷ without_id (ids_in es) id) (without_id (ids_in es) id)
      by_head true rest = rest
      by_head false rest = ap (λ zs. e.1.id ∷ zs) rest

  -- ---- ids one after another

  pub without_entries-none : (es : List (ℕ × Entry V)) → without_entries es [] ≡ es
  without_entries-none [] = refl
  without_entries-none (e ∷ es) = ap (λ zs. e ∷ zs) (without_entries-none es)

  pub without_entries-more : (es : List (ℕ × Entry V)) (ids : List Hash32) (id : Hash32) → without_entry (without_entries es ids) id ≡ without_entries es (ids ++ id ∷ [])
  without_entries-more [] ids id = refl
  without_entries-more (e ∷ es) ids id = by_head (is_listed ids e.1.id) (is_same_id e.1.id id) refl (listed_append ids (id ∷ []) e.1.id ∙ ap (λ b. is_listed ids e.1.id || (b || false)) (is_same_id-turned id e.1.id)) (without_entries-more es ids id)
    where
      by_head : (b c : Bool) → is_same_id e.1.id id ≡ c → is_listed (ids ++ id ∷ []) e.1.id ≡ (b || (is_same_id e.1.id id || false)) → without_entry (without_entries es ids) id ≡ without_entries es (ids ++ id ∷ [])
          → without_entry (cond (not b) (e ∷ without_entries es ids) (without_entries es ids)) id ≡ cond (not (is_listed (ids ++ id ∷ []) e.1.id)) (e ∷ without_entries es (ids ++ id ∷ [])) (without_entries es (ids ++ id ∷ []))
      by_head true c h k rest = rest ∙ ap (λ d. cond (not d) (e ∷ without_entries es (ids ++ id ∷ [])) (without_entries es (ids ++ id ∷ []))) (sym k)
      by_head false true h k rest =
          ap (λ d. cond (not d) (e ∷ without_entry (without_entries es ids) id) (without_entry (without_entries es ids) id)) h
          ∙ rest
          ∙ ap (λ d. cond (not d) (e ∷ without_entries es (ids ++ id ∷ [])) (without_entries es (ids ++ id ∷ []))) (sym (k ∙ ap (λ d. d || false) h))
      by_head false false h k rest =
          ap (λ d. cond (not d) (e ∷ without_entry (without_entries es ids) id) (without_entry (without_entries es ids) id)) h
          ∙ ap (λ zs. e ∷ zs) rest
          ∙ ap (λ d. cond (not d) (e ∷ without_entries es (ids ++ id ∷ [])) (without_entries es (ids ++ id ∷ []))) (sym (k ∙ ap (λ d. d || false) h))
