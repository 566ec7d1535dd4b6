-- The sketched short ids as one member comes or goes.
use Rattle.std.proofs.Common.{◌≡◌, ◌++◌, ◌+◌, ◌==◌, ◌<◌, ◌^◌, ℕ, not, Bool, true, false, cond, List, [], ◌∷◌, Some, find, filter, map, option_map, refl, sym, ap, subst, ◌∙◌, arith}
use Rattle.std.specs.List.{AllByRecursion, count_by}
use Rattle.std.proofs.lemmas.Bool.{eqb-true, eq-eqb, or_parts, not-true}
use Rattle.std.proofs.lemmas.List.Sums.{sum_by_push}
use Rattle.base_types.specs.declared.lists.Hash32.{Hash32}
use Rattle.field_rules.specs.Ops.{Ops, IsRing, with_odd_powers}
use Rattle.field_rules.specs.Numbered.{IsNumbered}
use Rattle.sketch_rules.specs.Sketches.{sketch_at}
use Rattle.id_rules.proofs.Lists.{all_filter, all_weaker}
use Rattle.pool_rules.specs.Pools.{is_same_id, is_listed, AreDistinctIds}
use Rattle.pool_rules.specs.Snapshots.{Member, IsSet, ids_of, shorts_of, is_single, sketched_shorts, snapshot_sketch, without_member}
use Rattle.pool_laws.proofs.IdLists.{is_same_id-equal}
use Rattle.pool_laws.proofs.Singles.{others, count_by-cons, sketched_shorts-others, sketched_shorts-crowded, sketched_shorts-alone}
use Rattle.recon_set.specs.Members.{HaveElements}
use Rattle.recon_set.specs.Changes.{IsChange}
use Rattle.recon_set.proofs.Toggles.{toggled_in, toggled_out}

-- ---- one more at the end

others_push : (ms : List Member) (m : Member) → others m.short (ms ++ m ∷ []) ≡ others m.short ms
others_push [] m = ap (λ b. cond (not b) (m ∷ []) []) (eq-eqb m.short m.short refl)
others_push (x ∷ ms) m = ap (λ zs. cond (not (x.short == m.short)) (x ∷ zs) zs) (others_push ms m)

pub is_change-push : (ms more : List Member) (m : Member) → more ≡ ms ++ m ∷ [] → IsChange m.short ms more
is_change-push ms more m are = subst (IsChange m.short ms) (sym are) (record {
  rest = sym (others_push ms m);
  counts = λ e. let more = sum_by_push (λ x. cond (x.short == m.short) 1 0) ms m ∙ ap (λ b. count_by (λ x. x.short == m.short) ms + cond b 1 0) (eq-eqb m.short m.short refl) in
      absurd (omega (arith, e));
})

-- ---- one taken out

pub without_none : (ms : List Member) (id : Hash32) → is_listed (ids_of ms) id ≡ false → without_member ms id ≡ ms
without_none [] id h = refl
without_none (m ∷ ms) id h =
    let parts = or_parts (is_same_id m.id id) (is_listed (ids_of ms) id) h in
    ap (λ b. cond (not b) (m ∷ without_member ms id) (without_member ms id)) parts.0 ∙ ap (λ zs. m ∷ zs) (without_none ms id parts.1)

record IsWithout (short : ℕ) (ms rest : List Member) : Type 0 where
  pub others_are : others short ms ≡ others short rest
  pub count : count_by (λ m. m.short == short) ms ≡ 1 + count_by (λ m. m.short == short) rest

is_without-first : (m : Member) (ms : List Member) → IsWithout m.short (m ∷ ms) ms
is_without-first m ms = record {
  others_are = ap (λ b. cond (not b) (m ∷ others m.short ms) (others m.short ms)) (eq-eqb m.short m.short refl);
  count = count_by-cons (λ x. x.short == m.short) m ms ∙ ap (λ b. cond b 1 0 + count_by (λ x. x.short == m.short) ms) (eq-eqb m.short m.short refl);
}

is_without-later : (s : ℕ) (m : Member) (ms rest : List Member) → IsWithout s ms rest → IsWithout s (m ∷ ms) (m ∷ rest)
is_without-later s m ms rest h = record {
  others_are = ap (λ zs. cond (not (m.short == s)) (m ∷ zs) zs) h.others_are;
  count =
      let a = count_by-cons (λ x. x.short == s) m ms in
      let b = count_by-cons (λ x. x.short == s) m rest in
      omega (arith, h.count);
}

is_without-member : (ms : List Member) (id : Hash32) (s : ℕ) → IsSet ms → option_map (λ m. m.short) (find (λ m. is_same_id m.id id) ms) ≡ Some s → IsWithout s ms (without_member ms id)
unfolding AreDistinctIds
is_without-member [] id s d f = cc
is_without-member (m ∷ ms) id s d f = by_head (is_same_id m.id id) refl f (is_without-member ms id s d.1)
  where
    by_head : (b : Bool) → is_same_id m.id id ≡ b → option_map (λ m. m.short) (cond b (Some m) (find (λ m. is_same_id m.id id) ms)) ≡ Some s
        → (option_map (λ m. m.short) (find (λ m. is_same_id m.id id) ms) ≡ Some s → IsWithout s ms (without_member ms id)) → IsWithout s (m ∷ ms) (cond (not b) (m ∷ without_member ms id) (without_member ms id))
    by_head true h f rest =
        let same : m.short ≡ s = cc in
        let out : is_listed (ids_of ms) id ≡ false = subst (λ z. is_listed (ids_of ms) z ≡ false) (is_same_id-equal m.id id h) (not-true (is_listed (ids_of ms) m.id) d.0) in
        subst (λ z. IsWithout z (m ∷ ms) (without_member ms id)) same (subst (IsWithout m.short (m ∷ ms)) (sym (without_none ms id out)) (is_without-first m ms))
    by_head false h f rest = is_without-later s m ms (without_member ms id) (rest f)

pub is_change-without : (ms fewer : List Member) (id : Hash32) (s : ℕ) → fewer ≡ without_member ms id → IsSet ms → option_map (λ m. m.short) (find (λ m. is_same_id m.id id) ms) ≡ Some s → IsChange s ms fewer
is_change-without ms fewer id s are d f = let w = is_without-member ms id s d f in
    subst (IsChange s ms) (sym are) (record { rest = w.others_are; counts = λ e. let count = w.count in absurd (omega (arith, e)) })

-- ---- sketches

shorts_all : (ms : List Member) → HaveElements ms → AllByRecursion (λ n. (0 < n) × (n < 2 ^ 32)) (shorts_of ms)
shorts_all [] h = tt
shorts_all (m ∷ ms) h = (h.0, shorts_all ms h.1)

pub element_shorts : (ms : List Member) (ns : List ℕ) → ns ≡ sketched_shorts ms → HaveElements ms → AllByRecursion (λ n. (0 < n) × (n < 2 ^ 32)) ns
element_shorts ms ns are h =
    subst (AllByRecursion (λ n. (0 < n) × (n < 2 ^ 32))) (sym are) (shorts_all (filter (λ m. is_single ms m.short) ms) (all_filter (λ m. (0 < m.short) × (m.short < 2 ^ 32)) (λ m. is_single ms m.short) ms h))

small_shorts : (ms : List Member) → HaveElements ms → AllByRecursion (λ n. n < 2 ^ 32) (sketched_shorts ms)
small_shorts ms h = all_weaker (λ n. (0 < n) × (n < 2 ^ 32)) (λ n. n < 2 ^ 32) (λ n k. k.1) (sketched_shorts ms) (element_shorts ms (sketched_shorts ms) refl h)

-- where nobody is alone with it before or after, nothing changes
pub settled : (s : ℕ) (xs ys : List Member) → IsChange s xs ys → is_single xs s ≡ is_single ys s → sketched_shorts xs ≡ sketched_shorts ys
settled s xs ys h e = by_single (is_single xs s) refl (sym e)
  where
    by_single : (b : Bool) → is_single xs s ≡ b → is_single ys s ≡ is_single xs s → sketched_shorts xs ≡ sketched_shorts ys
    by_single true k l = absurd (h.counts (eqb-true (count_by (λ m. m.short == s) xs) 1 k ∙ sym (eqb-true (count_by (λ m. m.short == s) ys) 1 (l ∙ k))))
    by_single false k l = sketched_shorts-crowded s xs k ∙ ap sketched_shorts h.rest ∙ sym (sketched_shorts-crowded s ys (l ∙ k))

module _ {A : Type 0} (ops : Ops A) (bits_of : A → ℕ) (width : ℕ) (ring : IsRing ops) (numbered : IsNumbered ops bits_of width) (wide : width ≡ 32) where
  -- where one becomes alone with it or ceases to be, its powers are added
  pub toggled : (e : A) (s : ℕ) → bits_of e ≡ s → (xs ys : List Member) (c : ℕ) → HaveElements xs → HaveElements ys → IsChange s xs ys → is_single xs s ≡ not (is_single ys s)
      → (sums : List A) → map bits_of sums ≡ snapshot_sketch xs c → map bits_of (with_odd_powers ops e 0 sums) ≡ snapshot_sketch ys c
  toggled e s is xs ys c hx hy h flips sums are = by_single (is_single ys s) refl flips
    where
      numbers_32 : IsNumbered ops bits_of 32
      numbers_32 = subst (IsNumbered ops bits_of) wide numbered

      without_s : (ns : List ℕ) → filter (λ n. not (n == s)) ns ≡ filter (λ n. not (n == bits_of e)) ns
      without_s ns = ap (λ z. filter (λ n. not (n == z)) ns) (sym is)

      once : (ms : List Member) → is_single ms s ≡ true → count_by (λ n. n == bits_of e) (sketched_shorts ms) ≡ 1
      once ms k = ap (λ z. count_by (λ n. n == z) (sketched_shorts ms)) is ∙ sketched_shorts-alone s ms k

      by_single : (b : Bool) → is_single ys s ≡ b → is_single xs s ≡ not b → map bits_of (with_odd_powers ops e 0 sums) ≡ snapshot_sketch ys c
      by_single true k l =
          toggled_in ops bits_of 32 ring numbers_32 e (sketched_shorts ys) c sums (small_shorts ys hy) (once ys k)
          (are ∙ ap (λ ns. sketch_at 32 ns c) (sketched_shorts-crowded s xs l ∙ ap sketched_shorts h.rest ∙ sym (sketched_shorts-others s ys) ∙ without_s (sketched_shorts ys)))
      by_single false k l =
          toggled_out ops bits_of 32 ring numbers_32 e (sketched_shorts xs) c sums (small_shorts xs hx) (once xs l) are
          ∙ ap (λ ns. sketch_at 32 ns c) (sym (without_s (sketched_shorts xs)) ∙ sketched_shorts-others s xs ∙ ap sketched_shorts h.rest ∙ sym (sketched_shorts-crowded s ys k))
