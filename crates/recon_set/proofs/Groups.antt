-- The groups of entries, as entries come and go.
use Rattle.std.proofs.Common.{◌≡◌, ◌++◌, ◌+◌, ◌-◌, ◌==◌, ◌<◌, ℕ, zero, suc, not, Bool, true, false, cond, List, [], ◌∷◌, Some, None, find, refl, sym, ap, ap₂, subst, ◌∙◌, arith}
use Rattle.std.specs.Int.Bits.{bit_xor, xor_assoc, xor_self, xor_zero_l, xor_zero_r}
use Rattle.std.proofs.lemmas.Nat.{xor_comm}
use Rattle.std.proofs.lemmas.Bool.{not-true, eqb-true, eq-eqb}
use Rattle.std.proofs.lemmas.List.Sums.{sum_by_push}
use Rattle.base_types.specs.declared.lists.Hash32.{Hash32}
use Rattle.id_list.specs.declared.list.Entry.{Entry}
use Rattle.id_list.specs.Entries.{ids_in, entry_of_id, without_entry}
use Rattle.id_list.proofs.Found.{without_entry-none}
use Rattle.pool_rules.specs.Pools.{is_same_id, is_listed, AreDistinctIds}
use Rattle.pool_laws.proofs.IdLists.{is_same_id-equal}
use Rattle.pool_laws.proofs.Singles.{count_by-cons}
use Rattle.recon_set.specs.declared.members.Group.{Group}
use Rattle.recon_set.specs.Groups.{count_at, places_at, group_by_count, group_at, with_place, without_place}

-- ---- a group and its count

pub group_by_count-some : (n places : ℕ) (g : Group) → group_by_count n places ≡ Some g → (g.count ≡ n) × ((g.places ≡ places) × (0 < n))
unfolding group_by_count
group_by_count-some zero places g e = cc
group_by_count-some (suc n) places g e = let same : record { count = suc n; places = places } ≡ g = cc in
    (sym (ap (λ (z : Group). z.count) same), (sym (ap (λ (z : Group). z.places) same), omega arith))

pub group_by_count-none : (n places : ℕ) → group_by_count n places ≡ None → n ≡ 0
unfolding group_by_count
group_by_count-none zero places e = refl
group_by_count-none (suc n) places e = cc

pub group_by_count-same : (n k places more : ℕ) → n ≡ k → places ≡ more → group_by_count n places ≡ group_by_count k more
group_by_count-same n k places more e f = ap₂ group_by_count e f

-- ---- from the front

pub count_at-cons : (e : ℕ × Entry ℕ) (es : List (ℕ × Entry ℕ)) (s : ℕ) → count_at (e ∷ es) s ≡ cond (e.1.value == s) 1 0 + count_at es s
count_at-cons e es s = count_by-cons (λ e. e.1.value == s) e es

pub places_at-none : (es : List (ℕ × Entry ℕ)) (s : ℕ) → count_at es s ≡ 0 → places_at es s ≡ 0
unfolding places_at
places_at-none [] s h = refl
places_at-none (e ∷ es) s h = by_head (e.1.value == s) (sym (count_at-cons e es s) ∙ h) (places_at-none es s)
  where
    by_head : (b : Bool) → cond b 1 0 + count_at es s ≡ 0 → (count_at es s ≡ 0 → places_at es s ≡ 0) → cond b (bit_xor e.0 (places_at es s)) (places_at es s) ≡ 0
    by_head true k rest = absurd (omega arith)
    by_head false k rest = rest (omega arith)

-- a lone entry, and its place
pub lone : (es : List (ℕ × Entry ℕ)) (s : ℕ) → count_at es s ≡ 1 → (e : ℕ × Entry ℕ) × ((find (λ e. e.1.value == s) es ≡ Some e) × (places_at es s ≡ e.0))
unfolding places_at
lone [] s h = cc
lone (e ∷ es) s h = by_head (e.1.value == s) (sym (count_at-cons e es s) ∙ h) (lone es s)
  where
    by_head : (b : Bool) → cond b 1 0 + count_at es s ≡ 1 → (count_at es s ≡ 1 → (x : ℕ × Entry ℕ) × ((find (λ e. e.1.value == s) es ≡ Some x) × (places_at es s ≡ x.0)))
        → (x : ℕ × Entry ℕ) × ((cond b (Some e) (find (λ e. e.1.value == s) es) ≡ Some x) × (cond b (bit_xor e.0 (places_at es s)) (places_at es s) ≡ x.0))
    by_head true k rest = (e, (refl, ap (bit_xor e.0) (places_at-none es s (omega arith)) ∙ xor_zero_r e.0))
    by_head false k rest = rest (omega arith)

-- ---- an entry at the end

count_at-push : (es : List (ℕ × Entry ℕ)) (x : ℕ × Entry ℕ) (s : ℕ) → count_at (es ++ x ∷ []) s ≡ count_at es s + cond (x.1.value == s) 1 0
count_at-push es x s = sum_by_push (λ e. cond (e.1.value == s) 1 0) es x

places_at-push : (es : List (ℕ × Entry ℕ)) (x : ℕ × Entry ℕ) (s : ℕ) → places_at (es ++ x ∷ []) s ≡ cond (x.1.value == s) (bit_xor (places_at es s) x.0) (places_at es s)
unfolding places_at
places_at-push [] x s = by_test (x.1.value == s)
  where
    by_test : (b : Bool) → cond b (bit_xor x.0 0) 0 ≡ cond b (bit_xor 0 x.0) 0
    by_test true = xor_zero_r x.0 ∙ sym (xor_zero_l x.0)
    by_test false = refl
places_at-push (e ∷ es) x s = ap (λ n. cond (e.1.value == s) (bit_xor e.0 n) n) (places_at-push es x s) ∙ by_tests (e.1.value == s) (x.1.value == s)
  where
    by_tests : (b c : Bool) → cond b (bit_xor e.0 (cond c (bit_xor (places_at es s) x.0) (places_at es s))) (cond c (bit_xor (places_at es s) x.0) (places_at es s))
        ≡ cond c (bit_xor (cond b (bit_xor e.0 (places_at es s)) (places_at es s)) x.0) (cond b (bit_xor e.0 (places_at es s)) (places_at es s))
    by_tests true true = sym (xor_assoc e.0 (places_at es s) x.0)
    by_tests true false = refl
    by_tests false true = refl
    by_tests false false = refl

with_place-count : (n places place : ℕ) → (n ≡ 0 → places ≡ 0) → group_by_count (n + 1) (bit_xor places place) ≡ Some (with_place (group_by_count n places) place)
unfolding group_by_count
with_place-count zero places place h = ap (λ p. Some (record { count = 1; places = p })) (ap (λ p. bit_xor p place) (h refl) ∙ xor_zero_l place)
with_place-count (suc n) places place h =
    let next : suc n + 1 ≡ suc (suc n) = omega arith in
    ap (λ k. group_by_count k (bit_xor places place)) next ∙ ap (λ k. Some (record { count = k; places = bit_xor places place })) (sym next)

pub group_at-push : (es : List (ℕ × Entry ℕ)) (x : ℕ × Entry ℕ) (s : ℕ) → group_at (es ++ x ∷ []) s ≡ cond (x.1.value == s) (Some (with_place (group_at es s) x.0)) (group_at es s)
group_at-push es x s = group_by_count-same (count_at (es ++ x ∷ []) s) (count_at es s + cond (x.1.value == s) 1 0) (places_at (es ++ x ∷ []) s) (cond (x.1.value == s) (bit_xor (places_at es s) x.0) (places_at es s)) (count_at-push es x s) (places_at-push es x s) ∙ by_test (x.1.value == s)
  where
    by_test : (b : Bool) → group_by_count (count_at es s + cond b 1 0) (cond b (bit_xor (places_at es s) x.0) (places_at es s)) ≡ cond b (Some (with_place (group_at es s) x.0)) (group_at es s)
    by_test true = with_place-count (count_at es s) (places_at es s) x.0 (places_at-none es s)
    by_test false = group_by_count-same (count_at es s + 0) (count_at es s) (places_at es s) (places_at es s) (omega arith) refl

-- ---- an entry taken out

-- the count and the places with it, from those without it
record IsWith (es rest : List (ℕ × Entry ℕ)) (e : ℕ × Entry ℕ) (s : ℕ) : Type 0 where
  pub count : count_at es s ≡ cond (e.1.value == s) 1 0 + count_at rest s
  pub places : places_at es s ≡ cond (e.1.value == s) (bit_xor e.0 (places_at rest s)) (places_at rest s)

is_with-first : (e : ℕ × Entry ℕ) (es : List (ℕ × Entry ℕ)) (s : ℕ) → IsWith (e ∷ es) es e s
unfolding places_at
is_with-first e es s = record { count = count_at-cons e es s; places = refl }

is_with-later : (x e : ℕ × Entry ℕ) (es rest : List (ℕ × Entry ℕ)) (s : ℕ) → IsWith es rest e s → IsWith (x ∷ es) (x ∷ rest) e s
unfolding places_at
is_with-later x e es rest s h = record {
  count =
      let a = count_at-cons x es s in
      let b = count_at-cons x rest s in
      omega (arith, h.count);
  places = ap (λ n. cond (x.1.value == s) (bit_xor x.0 n) n) h.places ∙ by_tests (x.1.value == s) (e.1.value == s);
}
  where
    by_tests : (b c : Bool) → cond b (bit_xor x.0 (cond c (bit_xor e.0 (places_at rest s)) (places_at rest s))) (cond c (bit_xor e.0 (places_at rest s)) (places_at rest s))
        ≡ cond c (bit_xor e.0 (cond b (bit_xor x.0 (places_at rest s)) (places_at rest s))) (cond b (bit_xor x.0 (places_at rest s)) (places_at rest s))
    by_tests true true = sym (xor_assoc x.0 e.0 (places_at rest s)) ∙ ap (λ n. bit_xor n (places_at rest s)) (xor_comm x.0 e.0) ∙ xor_assoc e.0 x.0 (places_at rest s)
    by_tests true false = refl
    by_tests false true = refl
    by_tests false false = refl

is_with-without : (es : List (ℕ × Entry ℕ)) (id : Hash32) (e : ℕ × Entry ℕ) (s : ℕ) → AreDistinctIds (ids_in es) → entry_of_id es id ≡ Some e → IsWith es (without_entry es id) e s
unfolding AreDistinctIds
is_with-without [] id e s d f = cc
is_with-without (x ∷ es) id e s d f = by_head (is_same_id x.1.id id) refl f (is_with-without es id e s d.1)
  where
    by_head : (b : Bool) → is_same_id x.1.id id ≡ b → cond b (Some x) (entry_of_id es id) ≡ Some e → (entry_of_id es id ≡ Some e → IsWith es (without_entry es id) e s)
        → IsWith (x ∷ es) (cond (not b) (x ∷ without_entry es id) (without_entry es id)) e s
    by_head true h f rest =
        let same : x ≡ e = cc in
        let out : is_listed (ids_in es) id ≡ false = subst (λ z. is_listed (ids_in es) z ≡ false) (is_same_id-equal x.1.id id h) (not-true (is_listed (ids_in es) x.1.id) d.0) in
        subst (λ z. IsWith (x ∷ es) (without_entry es id) z s) same (subst (λ z. IsWith (x ∷ es) z x s) (sym (without_entry-none es id out)) (is_with-first x es s))
    by_head false h f rest = is_with-later x e es (without_entry es id) s (rest f)

-- an entry is counted at its short id
pub count_at-some : (es : List (ℕ × Entry ℕ)) (id : Hash32) (e : ℕ × Entry ℕ) → AreDistinctIds (ids_in es) → entry_of_id es id ≡ Some e → 0 < count_at es e.1.value
count_at-some es id e d f =
    let w = is_with-without es id e e.1.value d f in
    let count = w.count ∙ ap (λ b. cond b 1 0 + count_at (without_entry es id) e.1.value) (eq-eqb e.1.value e.1.value refl) in
    omega arith

pub group_at-without : (es : List (ℕ × Entry ℕ)) (id : Hash32) (e : ℕ × Entry ℕ) (g : Group) (s : ℕ) → AreDistinctIds (ids_in es) → entry_of_id es id ≡ Some e → group_at es e.1.value ≡ Some g
    → group_at (without_entry es id) s ≡ cond (e.1.value == s) (without_place g e.0) (group_at es s)
group_at-without es id e g s d f has = by_test (e.1.value == s) refl (is_with-without es id e s d f)
  where
    by_test : (b : Bool) → (e.1.value == s) ≡ b → IsWith es (without_entry es id) e s → group_at (without_entry es id) s ≡ cond b (without_place g e.0) (group_at es s)
    by_test false h w =
        let count = w.count ∙ ap (λ b. cond b 1 0 + count_at (without_entry es id) s) h in
        let places = w.places ∙ ap (λ b. cond b (bit_xor e.0 (places_at (without_entry es id) s)) (places_at (without_entry es id) s)) h in
        group_by_count-same (count_at (without_entry es id) s) (count_at es s) (places_at (without_entry es id) s) (places_at es s) (omega arith) (sym places)
    by_test true h w =
        let here : e.1.value ≡ s = eqb-true e.1.value s h in
        let count = w.count ∙ ap (λ b. cond b 1 0 + count_at (without_entry es id) s) h in
        let places = w.places ∙ ap (λ b. cond b (bit_xor e.0 (places_at (without_entry es id) s)) (places_at (without_entry es id) s)) h in
        let parts = group_by_count-some (count_at es s) (places_at es s) g (ap (group_at es) (sym here) ∙ has) in
        let sum = parts.0 in
        group_by_count-same (count_at (without_entry es id) s) (g.count - 1) (places_at (without_entry es id) s) (bit_xor g.places e.0) (omega arith)
        (sym (ap (λ n. bit_xor n e.0) (parts.1.0 ∙ places) ∙ xor_comm (bit_xor e.0 (places_at (without_entry es id) s)) e.0 ∙ sym (xor_assoc e.0 e.0 (places_at (without_entry es id) s)) ∙ ap (λ n. bit_xor n (places_at (without_entry es id) s)) (xor_self e.0) ∙ xor_zero_l (places_at (without_entry es id) s)))
