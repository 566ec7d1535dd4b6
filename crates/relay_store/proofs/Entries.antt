-- The ids of entries, one entry more.
use Rattle.std.proofs.Common.{◌≡◌, ◌||◌, ◌&&◌, ◌==◌, not, ℕ, ◌<◌, Bool, true, false, cond, List, [], ◌∷◌, ◌++◌, ◌+◌, map, filter, take, get_or, length, append-nil, refl, sym, ap, ◌∙◌, arith}
use Rattle.std.proofs.lemmas.Bool.Decides.{nat_tests}
use Rattle.std.proofs.lemmas.Cmp.{nat_list_eq_equiv}
use Rattle.std.proofs.lemmas.List.{take_more, map-append}
use Rattle.std.proofs.lemmas.List.Elements.{filter-append}
use Rattle.base_types.specs.declared.lists.Hash32.{Hash32}
use Rattle.wire_rules.specs.declared.message.InvEntry.{InvEntry}
use Rattle.pool_rules.specs.Pools.{is_same_id, is_listed, without_id}
use Rattle.pool_laws.proofs.IdLists.{listed_append}
use Rattle.node_rules.specs.Inventory.{is_tx_entry, wtxids_of}

wtxids_append : (es more : List InvEntry) → wtxids_of (es ++ more) ≡ wtxids_of es ++ wtxids_of more
wtxids_append es more = ap (map (λ e. e.id)) (filter-append is_tx_entry es more) ∙ map-append (λ e. e.id) (filter is_tx_entry es) (filter is_tx_entry more)

module _ (es : List InvEntry) (e : InvEntry) where
  pub wtxids_more : is_tx_entry e ≡ true → wtxids_of (es ++ e ∷ []) ≡ wtxids_of es ++ e.id ∷ []
  wtxids_more h = wtxids_append es (e ∷ []) ∙ ap (λ b. wtxids_of es ++ map (λ e. e.id) (cond b (e ∷ []) [])) h

  pub wtxids_same : is_tx_entry e ≡ false → wtxids_of (es ++ e ∷ []) ≡ wtxids_of es
  wtxids_same h = wtxids_append es (e ∷ []) ∙ ap (λ b. wtxids_of es ++ map (λ e. e.id) (cond b (e ∷ []) [])) h ∙ append-nil (wtxids_of es)

-- ---- ids without those of a list

abbrev pub without_ids : List Hash32 → List Hash32 → List Hash32
without_ids ids gone = filter (λ id. not (is_listed gone id)) ids

filter_both : (p q : Hash32 → Bool) (ids : List Hash32) → filter p (filter q ids) ≡ filter (λ id. q id && p id) ids
filter_both p q [] = refl
filter_both p q (x ∷ xs) = by_head (q x) (filter_both p q xs)
  where
    by_head : (b : Bool) → filter p (filter q xs) ≡ filter (λ id. q id && p id) xs
        → filter p (cond b (x ∷ filter q xs) (filter q xs)) ≡ cond (b && p x) (x ∷ filter (λ id. q id && p id) xs) (filter (λ id. q id && p id) xs)
    by_head true rest = ap (λ zs. cond (p x) (x ∷ zs) zs) rest
    by_head false rest = rest

neither : (a b c : Bool) → b ≡ c → (not a && not b) ≡ not (a || (c || false))
neither true b c e = refl
neither false b true e = ap not e
neither false b false e = ap not e

pub without_ids_none : (ids : List Hash32) → without_ids ids [] ≡ ids
without_ids_none [] = refl
without_ids_none (x ∷ xs) = ap (λ zs. x ∷ zs) (without_ids_none xs)

pub without_ids_more : (ids gone : List Hash32) (id : Hash32) → without_id (without_ids ids gone) id ≡ without_ids ids (gone ++ id ∷ [])
without_ids_more ids gone id =
    filter_both (λ other. not (is_same_id other id)) (λ other. not (is_listed gone other)) ids
    ∙ (λ i. filter (λ other. (neither (is_listed gone other) (is_same_id other id) (is_same_id id other) (nat_list_eq_equiv.symm other.0 id.0) ∙ ap not (sym (listed_append gone (id ∷ []) other))) i) ids)

-- ---- entries as a loop goes over them

abbrev pub no_entry : InvEntry
no_entry = record { kind = 0; id = record { 0 = [] } }

module _ (es : List InvEntry) (k : ℕ) (below : k < length es) where
  pub wtxids_next : (get_or es k no_entry).kind ≡ 5 → wtxids_of (take (k + 1) es) ≡ wtxids_of (take k es) ++ (get_or es k no_entry).id ∷ []
  wtxids_next h = ap wtxids_of (take_more es k no_entry below) ∙ wtxids_more (take k es) (get_or es k no_entry) (ap (λ n. n == 5) h)

  pub wtxids_stay : ((get_or es k no_entry).kind ≡ 5 → ⊥) → wtxids_of (take (k + 1) es) ≡ wtxids_of (take k es)
  wtxids_stay h = ap wtxids_of (take_more es k no_entry below) ∙ wtxids_same (take k es) (get_or es k no_entry) (grind (arith, nat_tests))
