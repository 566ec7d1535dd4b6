-- The short ids that a sketch is made of: each stands once, and is an element.
use Rattle.std.proofs.Common.{◌≡◌, ◌≢◌, cond, ℕ, zero, suc, ◌+◌, ◌==◌, ◌<◌, ◌≤◌, ◌^◌, Bool, true, false, List, [], ◌∷◌, length, filter, count_by, refl, sym, ap, ◌∙◌, arith, eqb-true, eq-eqb}
use Rattle.std.specs.List.{AllByRecursion, All, AllPairs}
use Rattle.std.proofs.lemmas.Bool.{cond_both, both_ways, false_from_ne_true}
use Rattle.std.proofs.lemmas.List.{get_or_default}
use Rattle.std.proofs.lemmas.List.Recursion.{is_count_by}
use Rattle.std.proofs.lemmas.List.Elements.{All-from_recursion}
use Rattle.sketch_laws.proofs.Sets.{has, has-from_Contains, Apart}
use Rattle.pool_laws.proofs.Ids.{short_id-nonzero, short_id-small}
use Rattle.id_rules.specs.Ids.{KeyPair}
use Rattle.base_types.specs.declared.lists.Hash32.{Hash32}
use Rattle.pool_rules.specs.Snapshots.{Member, member_of, members, is_single, sketched_shorts, shorts_of}
use Rattle.pool_laws.proofs.IdLists.{both_false}

-- how often a short id stands
times : ℕ → List Member → ℕ
times n [] = 0
times n (m ∷ ms) = cond (m.short == n) (1 + times n ms) (times n ms)

times_is : (n : ℕ) (ms : List Member) → times n ms ≡ count_by (λ m. m.short == n) ms
unfolding times
times_is n ms = is_count_by (times n) (λ m. m.short == n) refl (λ x xs. refl) ms

times_kept : (b : Bool) (k : ℕ) → k ≤ cond b (1 + k) k
times_kept true k = omega arith
times_kept false k = omega arith

none_there : (n : ℕ) (t : Member → Bool) (ms : List Member) → times n ms ≡ 0 → has (shorts_of (filter t ms)) n ≡ false
unfolding times
none_there n t [] e = refl
none_there n t (m ∷ ms) e =
    cond_both (t m) (m ∷ filter t ms) (filter t ms) (λ xs. has (shorts_of xs) n ≡ false)
    (λ k. both_false (m.short == n) (has (shorts_of (filter t ms)) n)
    (false_from_ne_true (m.short == n) (λ s. let more : 1 + times n ms ≡ 0 = sym (ap (λ b. cond b (1 + times n ms) (times n ms)) s) ∙ e in absurd (omega arith)))
    (none_there n t ms (let le = times_kept (m.short == n) (times n ms) in omega arith)))
    (λ k. none_there n t ms (let le = times_kept (m.short == n) (times n ms) in omega arith))

-- of a part of a list, the members that are single in the whole have short ids that stand once
singles_apart : (all ms : List Member) → ((n : ℕ) → times n ms ≤ times n all) → Apart (shorts_of (filter (λ m. is_single all m.short) ms))
unfolding times
singles_apart all [] h = tt
singles_apart all (m ∷ ms) h =
    let rest = singles_apart all ms (λ n. let le = times_kept (m.short == n) (times n ms) in let more = h n in omega arith) in
    cond_both (is_single all m.short) (m ∷ filter (λ m. is_single all m.short) ms) (filter (λ m. is_single all m.short) ms) (λ xs. Apart (shorts_of xs))
    (λ single.
    let once : times m.short all ≡ 1 = times_is m.short all ∙ eqb-true (count_by (λ x. x.short == m.short) all) 1 single in
    let here : times m.short (m ∷ ms) ≡ 1 + times m.short ms = ap (λ b. cond b (1 + times m.short ms) (times m.short ms)) (eq-eqb m.short m.short refl) in
    let few = h m.short in
    (none_there m.short (λ m. is_single all m.short) ms (omega (arith, once, here, few)), rest))
    (λ many. rest)

pub apart_pairs : (xs : List ℕ) → Apart xs → AllPairs (λ a b. a ≢ b) xs
apart_pairs [] h i j d below within = absurd (omega arith)
apart_pairs (x ∷ xs) h zero zero d below within = absurd (omega arith)
apart_pairs (x ∷ xs) h zero (suc j) d below within = λ same.
    let inside : j < length xs = omega arith in
    both_ways (has xs x) h.0 (has-from_Contains xs x (j, inside, get_or_default xs j x d inside ∙ sym same))
apart_pairs (x ∷ xs) h (suc i) zero d below within = absurd (omega arith)
apart_pairs (x ∷ xs) h (suc i) (suc j) d below within = apart_pairs xs h.1 i j d (omega arith) (omega arith)

pub sketched_apart : (ms : List Member) → AllPairs (λ a b. a ≢ b) (sketched_shorts ms)
sketched_apart ms = apart_pairs (sketched_shorts ms) (singles_apart ms ms (λ n. omega arith))

-- short ids are elements that aren't 0
short_between : (keys : KeyPair) (id : Hash32) → (0 < (member_of keys id).short) × ((member_of keys id).short < 2 ^ 32)
short_between keys id = (short_id-nonzero keys id, short_id-small keys id)

all_between : (keys : KeyPair) (ids : List Hash32) (t : Member → Bool) → AllByRecursion (λ e. (0 < e) × (e < 2 ^ 32)) (shorts_of (filter t (members keys ids)))
all_between keys [] t = tt
all_between keys (id ∷ ids) t =
    cond_both (t (member_of keys id)) (member_of keys id ∷ filter t (members keys ids)) (filter t (members keys ids)) (λ xs. AllByRecursion (λ e. (0 < e) × (e < 2 ^ 32)) (shorts_of xs))
    (λ e. (short_between keys id, all_between keys ids t)) (λ e. all_between keys ids t)

pub sketched_between : (keys : KeyPair) (ids : List Hash32) → All (λ e. (0 < e) × (e < 2 ^ 32)) (sketched_shorts (members keys ids))
sketched_between keys ids =
    All-from_recursion (λ e. (0 < e) × (e < 2 ^ 32)) (sketched_shorts (members keys ids)) (all_between keys ids (λ m. is_single (members keys ids) m.short))
