-- How many of some ids are in a pool.
use Rattle.std.proofs.Common.{◌≡◌, ◌≤◌, ℕ, ◌+◌, ◌-◌, ◌||◌, not, Bool, true, false, cond, List, [], ◌∷◌, ◌++◌, length, filter, Option, Some, None, is_some, option_map, append-nil, refl, sym, ap, ◌∙◌, subst, arith}
use Rattle.std.proofs.lemmas.Bool.{or_left, or_right, or_parts, not-true}
use Rattle.std.proofs.lemmas.Cmp.{nat_list_eq_equiv}
use Rattle.std.proofs.lemmas.List.Elements.{filter-append}
use Rattle.std.proofs.lemmas.List.{length-map}
use Rattle.base_types.specs.declared.lists.Hash32.{Hash32}
use Rattle.pool_rules.specs.Pools.{Transaction, is_same_id, is_listed, without_id, AreDistinctIds, is_in_pool}
use Rattle.pool_laws.proofs.IdLists.{is_same_id-self, is_same_id-equal, distinct_filter, distinct_both, one_alone, gone}
use Rattle.pool_laws.proofs.PoolIds.{ids_within, in_pool_append}
use Rattle.id_rules.proofs.Lists.{filter_few, filter_passed}
use Rattle.id_list.specs.declared.list.Entry.{Entry}
use Rattle.id_list.specs.Entries.{ids_in, entry_of_id}
use Rattle.id_list.proofs.Found.{is_listed-is_some}
use Rattle.relay_store.specs.Invariant.{IsCounted}

pub length_ids : {V : Type 0} (es : List (ℕ × Entry V)) → length (ids_in es) ≡ length es
length_ids es = length-map es (λ e. e.1.id)

-- an id is listed where its entry is answered
pub listed_answered : {V : Type 0} (es : List (ℕ × Entry V)) (id : Hash32) (answer : Option (ℕ × V)) → option_map (λ e. (e.0, e.1.value)) (entry_of_id es id) ≡ answer → is_listed (ids_in es) id ≡ is_some answer
listed_answered es id answer e = is_listed-is_some es id ∙ (by_entry (entry_of_id es id) ∙ ap is_some e)
  where
    by_entry : {V : Type 0} (o : Option (ℕ × Entry V)) → is_some o ≡ is_some {T = ℕ × V} (option_map (λ e. (e.0, e.1.value)) o)
    by_entry None = refl
    by_entry (Some e) = refl

abbrev pub pooled_in : List Transaction → List Hash32 → ℕ
pooled_in pool ids = length (filter (is_in_pool pool) ids)

pub counted_none : (pool : List Transaction) → IsCounted pool [] 0
unfolding AreDistinctIds
counted_none pool = record { once = tt; pooled = refl }

pub counted_within : (pool : List Transaction) (ids : List Hash32) (n : ℕ) → IsCounted pool ids n → (n ≤ length ids) × (n ≤ length pool)
counted_within pool ids n h = (
  (let few = filter_few (is_in_pool pool) ids in let is = h.pooled in omega (arith, few, is)),
  (let few = ids_within (filter (is_in_pool pool) ids) pool (distinct_filter (is_in_pool pool) ids h.once) (filter_passed (is_in_pool pool) ids) in let is = h.pooled in omega (arith, few, is)),
)

-- ---- one id less

pub without_unlisted : (ids : List Hash32) (id : Hash32) → is_listed ids id ≡ false → without_id ids id ≡ ids
without_unlisted [] id out = refl
without_unlisted (x ∷ xs) id out =
    let parts = or_parts (is_same_id x id) (is_listed xs id) out in
    ap (λ b. cond (not b) (x ∷ without_id xs id) (without_id xs id)) parts.0 ∙ ap (λ zs. x ∷ zs) (without_unlisted xs id parts.1)

pooled_by : (pool : List Transaction) (b : Bool) (x : Hash32) (xs : List Hash32) → is_in_pool pool x ≡ b → pooled_in pool (x ∷ xs) ≡ cond b 1 0 + pooled_in pool xs
pooled_by pool true x xs e = ap (λ b. length (cond b (x ∷ filter (is_in_pool pool) xs) (filter (is_in_pool pool) xs))) e ∙ omega arith
pooled_by pool false x xs e = ap (λ b. length (cond b (x ∷ filter (is_in_pool pool) xs) (filter (is_in_pool pool) xs))) e ∙ omega arith

-- an id that the pool lacks isn't counted
pub pooled_without-absent : (pool : List Transaction) (ids : List Hash32) (id : Hash32) → is_in_pool pool id ≡ false → pooled_in pool (without_id ids id) ≡ pooled_in pool ids
pooled_without-absent pool [] id out = refl
pooled_without-absent pool (x ∷ xs) id out = by_head (is_same_id x id) refl (pooled_without-absent pool xs id out)
  where
    by_head : (b : Bool) → is_same_id x id ≡ b → pooled_in pool (without_id xs id) ≡ pooled_in pool xs → pooled_in pool (cond (not b) (x ∷ without_id xs id) (without_id xs id)) ≡ pooled_in pool (x ∷ xs)
    by_head true e rest =
        let one = pooled_by pool false x xs (subst (λ z. is_in_pool pool z ≡ false) (sym (is_same_id-equal x id e)) out) in
        omega (arith, one, rest)
    by_head false e rest =
        let one = pooled_by pool (is_in_pool pool x) x xs refl in
        let other = pooled_by pool (is_in_pool pool x) x (without_id xs id) refl in
        omega (arith, one, other, rest)

-- one that it has, and that stands among them, is counted once
pub pooled_without-present : (pool : List Transaction) (ids : List Hash32) (id : Hash32) → AreDistinctIds ids → is_listed ids id ≡ true → is_in_pool pool id ≡ true
    → pooled_in pool (without_id ids id) + 1 ≡ pooled_in pool ids
unfolding AreDistinctIds
pooled_without-present pool [] id once listed there = absurd (let apart : false ≡ true = listed in cc)
pooled_without-present pool (x ∷ xs) id once listed there = by_head (is_same_id x id) refl listed (λ h. pooled_without-present pool xs id once.1 h there)
  where
    by_head : (b : Bool) → is_same_id x id ≡ b → (b || is_listed xs id) ≡ true → (is_listed xs id ≡ true → pooled_in pool (without_id xs id) + 1 ≡ pooled_in pool xs)
        → pooled_in pool (cond (not b) (x ∷ without_id xs id) (without_id xs id)) + 1 ≡ pooled_in pool (x ∷ xs)
    by_head true e h rest =
        let same = is_same_id-equal x id e in
        let one = pooled_by pool true x xs (subst (λ z. is_in_pool pool z ≡ true) (sym same) there) in
        let all = ap (pooled_in pool) (without_unlisted xs id (subst (λ z. is_listed xs z ≡ false) same (not-true (is_listed xs x) once.0))) in
        omega (arith, one, all)
    by_head false e h rest =
        let one = pooled_by pool (is_in_pool pool x) x xs refl in
        let other = pooled_by pool (is_in_pool pool x) x (without_id xs id) refl in
        let less = rest h in
        omega (arith, one, other, less)

module _ (pool : List Transaction) (ids : List Hash32) (n : ℕ) (id : Hash32) (h : IsCounted pool ids n) where
  pub counted_less : (left : List Hash32) → left ≡ without_id ids id → is_listed ids id ≡ true → is_in_pool pool id ≡ true → (1 ≤ n) × IsCounted pool left (n - 1)
  counted_less left e listed there =
      let less = pooled_without-present pool ids id h.once listed there in
      let is = h.pooled in
      (omega (arith, less, is), subst (λ zs. IsCounted pool zs (n - 1)) (sym e) (record { once = distinct_filter (λ other. not (is_same_id other id)) ids h.once; pooled = omega (arith, less, is) }))

  pub counted_same-absent : (left : List Hash32) → left ≡ without_id ids id → is_in_pool pool id ≡ false → IsCounted pool left n
  counted_same-absent left e out =
      subst (λ zs. IsCounted pool zs n) (sym e) (record { once = distinct_filter (λ other. not (is_same_id other id)) ids h.once; pooled = h.pooled ∙ sym (pooled_without-absent pool ids id out) })

  pub counted_same-unlisted : (left : List Hash32) → left ≡ without_id ids id → is_listed ids id ≡ false → IsCounted pool left n
  counted_same-unlisted left e out = subst (λ zs. IsCounted pool zs n) (sym (e ∙ without_unlisted ids id out)) h

-- ---- one id more

pub counted_more-absent : (pool : List Transaction) (ids : List Hash32) (n : ℕ) (id : Hash32) → IsCounted pool ids n → is_listed ids id ≡ false → is_in_pool pool id ≡ false → IsCounted pool (ids ++ id ∷ []) n
counted_more-absent pool ids n id h out absent = record {
  once = distinct_both ids (id ∷ []) h.once (one_alone id) (out, tt);
  pooled = h.pooled
      ∙ sym (ap length (filter-append (is_in_pool pool) ids (id ∷ []) ∙ ap (λ b. filter (is_in_pool pool) ids ++ cond b (id ∷ []) []) absent ∙ append-nil (filter (is_in_pool pool) ids)));
}

-- ---- one transaction more

module _ (pool : List Transaction) (t : Transaction) where
  abbrev grown : List Transaction
  grown = pool ++ t ∷ []

  in_grown-other : (id : Hash32) → is_same_id id t.id ≡ false → is_in_pool grown id ≡ is_in_pool pool id
  in_grown-other id other =
      in_pool_append pool (t ∷ []) id ∙ ap (λ b. is_in_pool pool id || (b || false)) (nat_list_eq_equiv.symm t.id.0 id.0 ∙ other) ∙ or_false (is_in_pool pool id)
    where
      or_false : (b : Bool) → (b || false) ≡ b
      or_false true = refl
      or_false false = refl

  in_grown-self : is_in_pool grown t.id ≡ true
  in_grown-self = in_pool_append pool (t ∷ []) t.id ∙ or_right (is_in_pool pool t.id) (is_in_pool (t ∷ []) t.id) (or_left (is_same_id t.id t.id) false (is_same_id-self t.id))

  pooled_grown-unlisted : (ids : List Hash32) → is_listed ids t.id ≡ false → pooled_in grown ids ≡ pooled_in pool ids
  pooled_grown-unlisted [] out = refl
  pooled_grown-unlisted (x ∷ xs) out =
      let parts = or_parts (is_same_id x t.id) (is_listed xs t.id) out in
      let new = pooled_by grown (is_in_pool pool x) x xs (in_grown-other x parts.0) in
      let old = pooled_by pool (is_in_pool pool x) x xs refl in
      let rest = pooled_grown-unlisted xs parts.1 in
      omega (arith, new, old, rest)

  module _ (ids : List Hash32) (n : ℕ) (h : IsCounted pool ids n) (absent : is_in_pool pool t.id ≡ false) where
    same_without : pooled_in grown (without_id ids t.id) ≡ pooled_in pool ids
    same_without = pooled_grown-unlisted (without_id ids t.id) (gone ids t.id) ∙ pooled_without-absent pool ids t.id absent

    -- its id is taken out
    pub counted_gained : (left : List Hash32) → left ≡ without_id ids t.id → IsCounted grown left n
    counted_gained left e =
        subst (λ zs. IsCounted grown zs n) (sym e) (record { once = distinct_filter (λ other. not (is_same_id other t.id)) ids h.once; pooled = h.pooled ∙ sym same_without })

    -- its id stays among them, or isn't there
    pub counted_grown-listed : is_listed ids t.id ≡ true → IsCounted grown ids (n + 1)
    counted_grown-listed listed =
        let more = pooled_without-present grown ids t.id h.once listed in_grown-self in
        let same = same_without in
        let is = h.pooled in
        record { once = h.once; pooled = omega (arith, more, same, is) }

    pub counted_grown-unlisted : is_listed ids t.id ≡ false → IsCounted grown ids n
    counted_grown-unlisted out = record { once = h.once; pooled = h.pooled ∙ sym (pooled_grown-unlisted ids out) }
