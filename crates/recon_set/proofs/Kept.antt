-- Members as they are kept, as members come and go.
use Rattle.std.proofs.Common.{◌≡◌, ◌++◌, ◌+◌, ◌-◌, ◌==◌, ◌<◌, ◌^◌, ℕ, zero, suc, not, Bool, true, false, cond, List, [], ◌∷◌, Some, None, Option, find, length, length-append, le_trans, option_map, refl, sym, ap, subst, ◌∙◌, arith}
use Rattle.std.specs.Option.{IsSome, IfSome}
use Rattle.std.specs.Ordering.{nat_cmp, is_eq}
use Rattle.std.specs.Map.{lookup}
use Rattle.std.specs.BTreeMap.{BTreeMap, WritesThrough, get, is_at}
use Rattle.std.specs.Int.Bits.{bit_xor}
use Rattle.std.proofs.lemmas.Bool.{eqb-true, or_parts}
use Rattle.std.proofs.lemmas.Bool.Decides.{nat_tests}
use Rattle.base_types.specs.declared.lists.Hash32.{Hash32}
use Rattle.id_rules.proofs.Lists.{all_append, all_filter, filter_few}
use Rattle.id_list.specs.declared.list.Entry.{Entry}
use Rattle.id_list.specs.Entries.{ids_in, entry_of_id, without_entry}
use Rattle.id_list.proofs.Found.{ids_in-without}
use Rattle.pool_rules.specs.Pools.{is_same_id, is_listed, AreDistinctIds}
use Rattle.pool_rules.specs.declared.limits.TheConstants.{POOL_LIMIT}
use Rattle.pool_rules.specs.Snapshots.{Member, is_single, id_of_short}
use Rattle.pool_laws.proofs.IdLists.{is_same_id-self, distinct_both, distinct_filter, one_alone}
use Rattle.pool_laws.proofs.Singles.{id_of_short-alone}
use Rattle.recon_set.specs.declared.members.Group.{Group}
use Rattle.recon_set.specs.Members.{member, members_of, HaveElements}
use Rattle.recon_set.specs.Groups.{count_at, group_by_count, group_at, places_at, with_place, without_place}
use Rattle.recon_set.specs.Invariant.{AreKept}
use Rattle.recon_set.proofs.Entries.{members_of-append, count_by-members, find-members, filter-members, found_entry}
use Rattle.recon_set.proofs.Groups.{group_by_count-some, group_by_count-none, group_at-push, group_at-without, count_at-some, lone}
use Rattle.std.proofs.lemmas.List.{map-append}

pub is_eq-cmp : (a b : ℕ) → is_eq (nat_cmp a b) ≡ (a == b)
is_eq-cmp a b = grind (arith, nat_tests)

-- ---- what a group tells

pub single-some : (es : List (ℕ × Entry ℕ)) (s : ℕ) (g : Group) → Some g ≡ group_at es s → is_single (members_of es) s ≡ (g.count == 1)
single-some es s g e = ap (λ n. n == 1) (count_by-members es s ∙ sym (group_by_count-some (count_at es s) (places_at es s) g (sym e)).0)

pub single-none : (es : List (ℕ × Entry ℕ)) (s : ℕ) → None ≡ group_at es s → is_single (members_of es) s ≡ false
single-none es s e = ap (λ n. n == 1) (count_by-members es s ∙ group_by_count-none (count_at es s) (places_at es s) (sym e))

-- a group has room for one more
pub room_for : (es : List (ℕ × Entry ℕ)) (s n : ℕ) (o : Option Group) → o ≡ group_at es s → count_at es s + 1 < n → IfSome o (λ g. g.count + 1 < n)
room_for es s n None e lt = tt
room_for es s n (Some g) e lt = let count = (group_by_count-some (count_at es s) (places_at es s) g (sym e)).0 in omega arith

-- ---- changes

pub is_kept-none : (es : List (ℕ × Entry ℕ)) (groups : List (ℕ × Group)) → es ≡ [] → groups ≡ [] → AreKept es groups
unfolding AreDistinctIds group_by_count
is_kept-none es groups e f =
    subst (λ z. AreKept z groups) (sym e) (subst (λ z. AreKept [] z) (sym f) (record { distinct = tt; few = omega arith; elements = tt; grouped = λ s. refl }))

pub is_kept-more : (es : List (ℕ × Entry ℕ)) (groups more : List (ℕ × Group)) (place : ℕ) (x : Entry ℕ) → AreKept es groups → is_listed (ids_in es) x.id ≡ false → length es < POOL_LIMIT → 0 < x.value → x.value < 2 ^ 32
    → ((s : ℕ) → lookup (is_at (nat_cmp s)) more ≡ cond (is_at (nat_cmp x.value) s) (Some (with_place (lookup (is_at (nat_cmp x.value)) groups) place)) (lookup (is_at (nat_cmp s)) groups))
    → AreKept (es ++ (place, x) ∷ []) more
is_kept-more es groups more place x h out room low high u = record {
  distinct = subst AreDistinctIds (sym (map-append (λ e. e.1.id) es ((place, x) ∷ []))) (distinct_both (ids_in es) (x.id ∷ []) h.distinct (one_alone x.id) (out, tt));
  few = omega (arith, length-append es ((place, x) ∷ []));
  elements = subst HaveElements (sym (members_of-append es (place, x))) (all_append (λ m. (0 < m.short) × (m.short < 2 ^ 32)) (members_of es) (member x ∷ []) h.elements ((low, high), tt));
  grouped = λ s.
      u s
      ∙ ap (λ b. cond b (Some (with_place (lookup (is_at (nat_cmp x.value)) groups) place)) (lookup (is_at (nat_cmp s)) groups)) (is_eq-cmp x.value s)
      ∙ by_test s (x.value == s) refl
      ∙ sym (group_at-push es (place, x) s);
}
  where
    by_test : (s : ℕ) (b : Bool) → (x.value == s) ≡ b → cond b (Some (with_place (lookup (is_at (nat_cmp x.value)) groups) place)) (lookup (is_at (nat_cmp s)) groups) ≡ cond b (Some (with_place (group_at es s) place)) (group_at es s)
    by_test s false e = h.grouped s
    by_test s true e = ap (λ o. Some (with_place o place)) (h.grouped x.value ∙ ap (group_at es) (eqb-true x.value s e))

-- a group that a member is in
pub group_of-some : (es : List (ℕ × Entry ℕ)) (id : Hash32) (e : ℕ × Entry ℕ) → AreDistinctIds (ids_in es) → entry_of_id es id ≡ Some e → (g : Group) × ((group_at es e.1.value ≡ Some g) × (0 < g.count))
group_of-some es id e d f = by_group (group_at es e.1.value) refl
  where
    by_group : (o : Option Group) → group_at es e.1.value ≡ o → (g : Group) × ((group_at es e.1.value ≡ Some g) × (0 < g.count))
    by_group (Some g) h = let parts = group_by_count-some (count_at es e.1.value) (places_at es e.1.value) g h in
        (g, (h, omega (arith, parts.0, parts.1.1)))
    by_group None h = let none = group_by_count-none (count_at es e.1.value) (places_at es e.1.value) h in
        absurd (omega (arith, none, count_at-some es id e d f))

pub is_kept-less : (es : List (ℕ × Entry ℕ)) (groups fewer : List (ℕ × Group)) (id : Hash32) (e : ℕ × Entry ℕ) → AreKept es groups → entry_of_id es id ≡ Some e
    → ((g : Group) → lookup (is_at (nat_cmp e.1.value)) groups ≡ Some g → (s : ℕ) → lookup (is_at (nat_cmp s)) fewer ≡ cond (e.1.value == s) (without_place g e.0) (lookup (is_at (nat_cmp s)) groups))
    → AreKept (without_entry es id) fewer
is_kept-less es groups fewer id e h f u = record {
  distinct = subst AreDistinctIds (sym (ids_in-without es id)) (distinct_filter (λ other. not (is_same_id other id)) (ids_in es) h.distinct);
  few = le_trans (filter_few (λ e. not (is_same_id e.1.id id)) es) h.few;
  elements = subst HaveElements (sym (filter-members (λ m. not (is_same_id m.id id)) es)) (all_filter (λ m. (0 < m.short) × (m.short < 2 ^ 32)) (λ m. not (is_same_id m.id id)) (members_of es) h.elements);
  grouped = λ s. let has = group_of-some es id e h.distinct f in
      u has.0 (h.grouped e.1.value ∙ has.1.0) s
      ∙ ap (cond (e.1.value == s) (without_place has.0 e.0)) (h.grouped s)
      ∙ sym (group_at-without es id e has.0 s h.distinct f has.1.0);
}

-- a member put at the end, and taken out again
pub without_entry-last : (es : List (ℕ × Entry ℕ)) (place : ℕ) (x : Entry ℕ) → is_listed (ids_in es) x.id ≡ false → without_entry (es ++ (place, x) ∷ []) x.id ≡ es
without_entry-last [] place x out = ap (λ b. cond (not b) ((place, x) ∷ []) []) (is_same_id-self x.id)
without_entry-last (e ∷ es) place x out =
    let parts = or_parts (is_same_id e.1.id x.id) (is_listed (ids_in es) x.id) out in
    ap (λ b. cond (not b) (e ∷ without_entry (es ++ (place, x) ∷ []) x.id) (without_entry (es ++ (place, x) ∷ []) x.id)) parts.0 ∙ ap (λ zs. e ∷ zs) (without_entry-last es place x parts.1)

-- ---- what is found

-- the short id of an id
pub short_of-id : (es : List (ℕ × Entry ℕ)) (id : Hash32) → option_map (λ e. e.1.value) (entry_of_id es id) ≡ option_map (λ m. m.short) (find (λ m. is_same_id m.id id) (members_of es))
short_of-id es id = by_entry (entry_of_id es id) ∙ sym (ap (option_map (λ m. m.short)) (find-members (λ m. is_same_id m.id id) es))
  where
    by_entry : (o : Option (ℕ × Entry ℕ)) → option_map (λ e. e.1.value) o ≡ option_map (λ m. m.short) (option_map (λ e. member e.1) o)
    by_entry None = refl
    by_entry (Some e) = refl

-- it may be an element
pub element_found : (t : Member → Bool) (ms : List Member) → HaveElements ms → IfSome (option_map (λ m. m.short) (find t ms)) (λ s. (0 < s) × (s < 2 ^ 32))
element_found t ms h = by_found (find t ms) refl
  where
    by_found : (o : Option Member) → find t ms ≡ o → IfSome (option_map (λ m. m.short) o) (λ s. (0 < s) × (s < 2 ^ 32))
    by_found None f = tt
    by_found (Some m) f = found_entry (λ m. (0 < m.short) × (m.short < 2 ^ 32)) t ms m h f

-- the entry of a short id that one member alone has
pub record IsLone (es : List (ℕ × Entry ℕ)) (s : ℕ) (place : ℕ) (e : ℕ × Entry ℕ) : Type 0 where
  pub found : find (λ e. e.1.value == s) es ≡ Some e
  pub placed : e.0 ≡ place
  pub named : Some e.1.id ≡ id_of_short (members_of es) s

pub is_lone-group : (es : List (ℕ × Entry ℕ)) (s : ℕ) (g : Group) → Some g ≡ group_at es s → g.count ≡ 1 → (e : ℕ × Entry ℕ) × IsLone es s g.places e
is_lone-group es s g h one =
    let parts = group_by_count-some (count_at es s) (places_at es s) g (sym h) in
    let it = lone es s (sym parts.0 ∙ one) in (
      it.0,
      record {
        found = it.1.0;
        placed = sym (parts.1.0 ∙ it.1.1);
        named = sym (id_of_short-alone s (members_of es) (single-some es s g h ∙ ap (λ n. n == 1) one) ∙ ap (option_map (λ m. m.id)) (find-members (λ m. m.short == s) es ∙ ap (option_map (λ e. member e.1)) it.1.0));
      },
    )

-- what `remove` of a list of ids tells
pub gone-none : (o : Option (ℕ × Entry ℕ)) → option_map {U = ℕ × ℕ} (λ e. (e.0, e.1.value)) o ≡ None → o ≡ None
gone-none None e = refl
gone-none (Some x) e = cc

pub gone-some : (o : Option (ℕ × Entry ℕ)) (place short : ℕ) → option_map {U = ℕ × ℕ} (λ e. (e.0, e.1.value)) o ≡ Some (place, short) → (e : ℕ × Entry ℕ) × ((o ≡ Some e) × ((e.0 ≡ place) × (e.1.value ≡ short)))
gone-some None place short e = cc
gone-some (Some x) place short e = let same : (x.0, x.1.value) ≡ (place, short) = cc in (x, (refl, (ap (λ (p : ℕ × ℕ). p.0) same, ap (λ (p : ℕ × ℕ). p.1) same)))

-- ---- a group and one fewer

pub same_group : (g h : Group) → Some g ≡ Some h → g ≡ h
same_group g h e = cc

more_than_one : (n : ℕ) → 0 < n → (n ≡ 1 → ⊥) → 0 < n - 1
more_than_one n low many = omega arith

pub without_place-last : (g : Group) (place : ℕ) → g.count ≡ 1 → without_place g place ≡ None
unfolding group_by_count
without_place-last g place one = ap (λ n. group_by_count (n - 1) (bit_xor g.places place)) one

pub group_by_count-more : (n places : ℕ) → 0 < n → group_by_count n places ≡ Some (record { count = n; places = places })
unfolding group_by_count
group_by_count-more zero places lt = absurd (omega arith)
group_by_count-more (suc n) places lt = refl

-- what is written through to the group of a short id
pub get-written : (m n : BTreeMap ℕ Group) (short : ℕ) (w g : Group) → WritesThrough nat_cmp (nat_cmp short) m w n → get nat_cmp m short ≡ Some g
    → (s : ℕ) → get nat_cmp n s ≡ cond (is_at (nat_cmp short) s) (Some w) (get nat_cmp m s)
get-written m n short w g h has s = (h.3 (subst IsSome (sym has) refl)).0 s

-- the group of a short id and what becomes of it, where it had one member
pub taken-last : (m n : BTreeMap ℕ Group) (short place : ℕ) (h g : Group) → Some h ≡ get nat_cmp m short → h.count ≡ 1 → get nat_cmp m short ≡ Some g
    → ((s : ℕ) → get nat_cmp n s ≡ cond (is_at (nat_cmp short) s) None (get nat_cmp m s))
    → (s : ℕ) → get nat_cmp n s ≡ cond (short == s) (without_place g place) (get nat_cmp m s)
taken-last m n short place h g has one is u s =
    let same : h ≡ g = same_group h g (has ∙ is) in
    u s
    ∙ ap (λ b. cond b None (get nat_cmp m s)) (is_eq-cmp short s)
    ∙ ap (λ o. cond (short == s) o (get nat_cmp m s)) (sym (without_place-last g place (sym (ap (λ (z : Group). z.count) same) ∙ one)))

-- and where it had more
pub taken-more : (m n : BTreeMap ℕ Group) (short place : ℕ) (h k g : Group) → Some h ≡ get nat_cmp m short → (h.count ≡ 1 → ⊥) → Some k ≡ get nat_cmp m short → 0 < k.count → get nat_cmp m short ≡ Some g
    → WritesThrough nat_cmp (nat_cmp short) m (record { count = k.count - 1; places = bit_xor k.places place }) n
    → (s : ℕ) → get nat_cmp n s ≡ cond (short == s) (without_place g place) (get nat_cmp m s)
taken-more m n short place h k g has many again low is w s =
    let same : h ≡ k = same_group h k (has ∙ sym again) in
    let count = ap (λ (z : Group). z.count) same in
    get-written m n short (record { count = k.count - 1; places = bit_xor k.places place }) k w (sym again) s
    ∙ ap (λ b. cond b (Some (record { count = k.count - 1; places = bit_xor k.places place })) (get nat_cmp m s)) (is_eq-cmp short s)
    ∙ ap (λ o. cond (short == s) o (get nat_cmp m s))
    (sym (group_by_count-more (k.count - 1) (bit_xor k.places place) (more_than_one k.count low (λ e. many (count ∙ e))))
    ∙ ap (λ z. without_place z place) (same_group k g (again ∙ is)))
