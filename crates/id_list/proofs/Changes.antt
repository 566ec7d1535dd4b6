-- What a change leaves of a list of ids as it is kept.
use Rattle.std.proofs.Common.{◌≡◌, ◌<◌, ◌+◌, ◌++◌, ℕ, not, Bool, true, false, cond, List, [], ◌∷◌, Some, None, option_map, Option, refl, sym, ap, subst, ◌∙◌, arith}
use Rattle.std.specs.Ordering.{nat_cmp, is_eq}
use Rattle.std.specs.List.Sorted.{IsStrictlySortedBy}
use Rattle.std.specs.Map.{lookup, keys_of, remove_entry}
use Rattle.std.specs.BTreeMap.{BTreeMap, Updates, IsOrdered, get_by, is_at, insert_entry}
use Rattle.std.proofs.lemmas.List.{map-append}
use Rattle.std.proofs.lemmas.Map.Text.{is_eq-slice_cmp}
use Rattle.base_types.specs.declared.lists.Hash32.{Hash32}
use Rattle.base_types.specs.contracts.lists.Hash32Ord.TheImpl as order
use Rattle.pool_rules.specs.Pools.{is_same_id, is_listed, AreDistinctIds}
use Rattle.pool_laws.proofs.IdLists.{is_same_id-equal, distinct_filter, distinct_both, one_alone}
use Rattle.id_rules.proofs.Lists.{all_append, all_weaker, all_filter}
use Rattle.id_list.specs.declared.list.Entry.{Entry}
use Rattle.id_list.specs.Entries.{ids_in, entry_of_id, without_entry}
use Rattle.id_list.specs.Invariant.{IsIndexed}
use Rattle.id_list.proofs.Places.{lookup-place, insert_entry-last}
use Rattle.id_list.proofs.Found.{entry_of_id-none, entry_of_id-append, entry_of_id-without, ids_in-without, remove_entry-id}

-- ids compare equal where they are the same
pub is_eq-cmp : (a b : Hash32) → is_eq (order.cmp-value.it a b) ≡ is_same_id a b
is_eq-cmp a b = is_eq-slice_cmp a.0 b.0

pub lookup-id : {X : Type 0} (id : Hash32) (es : List (Hash32 × X)) → lookup (is_at (order.cmp-value.it id)) es ≡ lookup (is_same_id id) es
lookup-id id es = λ i. lookup (λ k. is_eq-cmp id k i) es

-- what an update leaves at each id
pub lookup-updated : {X : Type 0} (m n : BTreeMap Hash32 X) (id : Hash32) (w : Option X) → Updates order.cmp-value.it m n id w
    → (q : Hash32) → lookup (is_same_id q) n.entries ≡ cond (is_same_id id q) w (lookup (is_same_id q) m.entries)
lookup-updated m n id w u q =
    sym (lookup-id q n.entries) ∙ u.0 q ∙ (λ i. cond (is_eq-cmp id q i) w (lookup-id q m.entries i))

module _ {V : Type 0} where
  -- an id without a place has no entry
  pub entry_of_id-unplaced : (es : List (ℕ × Entry V)) (places : BTreeMap Hash32 ℕ) (next : ℕ) (id : Hash32) → IsIndexed es places.entries next
      → None ≡ get_by (order.cmp-value.it id) places → entry_of_id es id ≡ None
  entry_of_id-unplaced es places next id h e = by_entry (entry_of_id es id) (e ∙ lookup-id id places.entries ∙ h.found id)
    where
      by_entry : (o : Option (ℕ × Entry V)) → None ≡ option_map (λ e. e.0) o → o ≡ None
      by_entry None e = refl
      by_entry (Some x) e = cc

  -- an id with a place has the entry that stands there
  pub entry_of_id-placed : (entries : BTreeMap ℕ (Entry V)) (places : BTreeMap Hash32 ℕ) (next : ℕ) (id : Hash32) (place : ℕ) → IsIndexed entries.entries places.entries next
      → Some place ≡ get_by (order.cmp-value.it id) places
      → (x : Entry V) × ((entry_of_id entries.entries id ≡ Some (place, x)) × (get_by (nat_cmp place) entries ≡ Some x))
  entry_of_id-placed entries places next id place h e = by_entry (entry_of_id entries.entries id) refl (e ∙ lookup-id id places.entries ∙ h.found id)
    where
      by_entry : (o : Option (ℕ × Entry V)) → entry_of_id entries.entries id ≡ o → Some place ≡ option_map (λ e. e.0) o
          → (x : Entry V) × ((entry_of_id entries.entries id ≡ Some (place, x)) × (get_by (nat_cmp place) entries ≡ Some x))
      by_entry None f e = cc
      by_entry (Some x) f e =
          let same : x.0 ≡ place = cc in
          let found : entry_of_id entries.entries id ≡ Some (place, x.1) = f ∙ ap (λ z. Some (z, x.1)) same in
          (x.1, (found, lookup-place (λ e. is_same_id e.1.id id) entries.entries (place, x.1) h.rising found))

  pub is_indexed-none : (places : List (Hash32 × ℕ)) → places ≡ [] → (es : List (ℕ × Entry V)) → es ≡ [] → IsIndexed es places 0
  unfolding AreDistinctIds IsStrictlySortedBy
  is_indexed-none places e es f =
      subst (λ z. IsIndexed es z 0) (sym e) (subst (λ z. IsIndexed z [] 0) (sym f) (record { distinct = tt; rising = tt; below = tt; found = λ id. refl }))

  -- an entry at the end
  pub is_indexed-more : (es : List (ℕ × Entry V)) (m n : BTreeMap Hash32 ℕ) (next : ℕ) (x : Entry V) → IsIndexed es m.entries next → is_listed (ids_in es) x.id ≡ false
      → Updates order.cmp-value.it m n x.id (Some next) → IsStrictlySortedBy nat_cmp (keys_of (es ++ (next, x) ∷ [])) → IsIndexed (es ++ (next, x) ∷ []) n.entries (next + 1)
  is_indexed-more es m n next x h out u rises = record {
    distinct = subst AreDistinctIds (sym (map-append (λ e. e.1.id) es ((next, x) ∷ []))) (distinct_both (ids_in es) (x.id ∷ []) h.distinct (one_alone x.id) (out, tt));
    rising = rises;
    below = all_append (λ e. e.0 < next + 1) es ((next, x) ∷ []) (all_weaker (λ e. e.0 < next) (λ e. e.0 < next + 1) (λ e lt. omega arith) es h.below) (omega arith, tt);
    found = λ id.
        lookup-updated m n x.id (Some next) u id
        ∙ ap (cond (is_same_id x.id id) (Some next)) (h.found id)
        ∙ sym (ap (option_map (λ e. e.0)) (entry_of_id-append es (next, x) id out) ∙ mapped (is_same_id x.id id) (entry_of_id es id));
  }
    where
      mapped : (b : Bool) (o : Option (ℕ × Entry V)) → option_map (λ e. e.0) (cond b (Some (next, x)) o) ≡ cond b (Some next) (option_map (λ e. e.0) o)
      mapped true o = refl
      mapped false o = refl

  -- an entry taken out
  pub is_indexed-without : (es : List (ℕ × Entry V)) (m n : BTreeMap Hash32 ℕ) (next : ℕ) (id : Hash32) → IsIndexed es m.entries next
      → Updates order.cmp-value.it m n id None → IsStrictlySortedBy nat_cmp (keys_of (without_entry es id)) → IsIndexed (without_entry es id) n.entries next
  is_indexed-without es m n next id h u rises = record {
    distinct = subst AreDistinctIds (sym (ids_in-without es id)) (distinct_filter (λ other. not (is_same_id other id)) (ids_in es) h.distinct);
    rising = rises;
    below = all_filter (λ e. e.0 < next) (λ e. not (is_same_id e.1.id id)) es h.below;
    found = λ q.
        lookup-updated m n id None u q
        ∙ ap (cond (is_same_id id q) None) (h.found q)
        ∙ sym (ap (option_map (λ e. e.0)) (entry_of_id-without es id q) ∙ mapped (is_same_id id q) (entry_of_id es q));
  }
    where
      mapped : (b : Bool) (o : Option (ℕ × Entry V)) → option_map (λ e. e.0) (cond b None o) ≡ cond b None (option_map (λ e. e.0) o)
      mapped true o = refl
      mapped false o = refl

  -- an entry put in, and its place taken out again
  pub is_indexed-undone : (es : List (ℕ × Entry V)) (m n o : BTreeMap Hash32 ℕ) (next : ℕ) (id : Hash32) (place : ℕ) → IsIndexed es m.entries next → is_listed (ids_in es) id ≡ false
      → Updates order.cmp-value.it m n id (Some place) → Updates order.cmp-value.it n o id None → IsIndexed es o.entries next
  is_indexed-undone es m n o next id place h out u v = record {
    distinct = h.distinct;
    rising = h.rising;
    below = h.below;
    found = λ q.
        lookup-updated n o id None v q
        ∙ ap (cond (is_same_id id q) None) (lookup-updated m n id (Some place) u q ∙ ap (cond (is_same_id id q) (Some place)) (h.found q))
        ∙ by_test (is_same_id id q) (entry_of_id es q) (λ e. subst (λ z. entry_of_id es z ≡ None) (is_same_id-equal id q e) (entry_of_id-none es id out));
  }
    where
      by_test : {X : Type 0} (b : Bool) (o : Option (ℕ × X)) → (b ≡ true → o ≡ None) → cond b None (cond b (Some place) (option_map (λ e. e.0) o)) ≡ option_map (λ e. e.0) o
      by_test true o h = ap (option_map (λ e. e.0)) (sym (h refl))
      by_test false o h = refl

  -- ---- as the maps are changed

  pub entries-taken : (entries left : BTreeMap ℕ (Entry V)) (m : BTreeMap Hash32 ℕ) (next : ℕ) (id : Hash32) (place : ℕ) → IsIndexed entries.entries m.entries next
      → Some place ≡ get_by (order.cmp-value.it id) m → left.entries ≡ remove_entry (is_at (nat_cmp place)) entries.entries → left.entries ≡ without_entry entries.entries id
  entries-taken entries left m next id place h e r =
      let found = entry_of_id-placed entries m next id place h e in
      r ∙ remove_entry-id entries.entries id (place, found.0) h.distinct h.rising found.1.0

  pub is_indexed-taken : (entries left : BTreeMap ℕ (Entry V)) (m n : BTreeMap Hash32 ℕ) (next : ℕ) (id : Hash32) (place : ℕ) → IsIndexed entries.entries m.entries next
      → Some place ≡ get_by (order.cmp-value.it id) m → Updates order.cmp-value.it m n id None → left.entries ≡ remove_entry (is_at (nat_cmp place)) entries.entries → IsOrdered nat_cmp left
      → IsIndexed left.entries n.entries next
  is_indexed-taken entries left m n next id place h e u r rises =
      let same = entries-taken entries left m next id place h e r in
      subst (λ es. IsIndexed es n.entries next) (sym same) (is_indexed-without entries.entries m n next id h u (subst (λ es. IsStrictlySortedBy nat_cmp (keys_of es)) same rises))

  pub entries-put : (entries more : BTreeMap ℕ (Entry V)) (m : BTreeMap Hash32 ℕ) (next : ℕ) (x : Entry V) → IsIndexed entries.entries m.entries next
      → more.entries ≡ insert_entry nat_cmp entries.entries next x → more.entries ≡ entries.entries ++ (next, x) ∷ []
  entries-put entries more m next x h r = r ∙ insert_entry-last entries.entries next x h.below

  pub is_indexed-put : (entries more : BTreeMap ℕ (Entry V)) (m n : BTreeMap Hash32 ℕ) (next : ℕ) (x : Entry V) → IsIndexed entries.entries m.entries next
      → is_listed (ids_in entries.entries) x.id ≡ false → Updates order.cmp-value.it m n x.id (Some next) → more.entries ≡ insert_entry nat_cmp entries.entries next x → IsOrdered nat_cmp more
      → IsIndexed more.entries n.entries (next + 1)
  is_indexed-put entries more m n next x h out u r rises =
      let same = entries-put entries more m next x h r in
      subst (λ es. IsIndexed es n.entries (next + 1)) (sym same) (is_indexed-more entries.entries m n next x h out u (subst (λ es. IsStrictlySortedBy nat_cmp (keys_of es)) same rises))
