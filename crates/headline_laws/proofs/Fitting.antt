-- A round that fits leaves both snapshots in both pools.
use Rattle.std.proofs.Common.{◌≡◌, ◌≢◌, ⊎_elim, cond, ℕ, ◌==◌, ◌&&◌, ◌||◌, not, ◌<◌, ◌≤◌, ◌^◌, Bool, true, false, List, [], ◌∷◌, length, filter, refl, sym, ap, ◌∙◌, subst, eqb-true, eq-eqb}
use Rattle.std.specs.List.{AllByRecursion, All, AllPairs}
use Rattle.std.proofs.lemmas.Bool.{or_cases, or_left, or_right, or_parts, not-false, both_ways}
use Rattle.base_types.specs.declared.lists.Hash32.{Hash32}
use Rattle.sketch_rules.specs.Answers.{Answer, IsAscending}
use Rattle.sketch_laws.proofs.Differences.{of_difference, difference_answers}
use Rattle.sketch_laws.proofs.Rising.{same_rising, IsAscending-from_AllPairs}
use Rattle.sketch_rules.specs.Sets.{difference}
use Rattle.sketch_rules.specs.Sketches.{sketch_sum}
use Rattle.sketch_laws.proofs.Sets.{has, has-difference, has-filter, difference-rises}
use Rattle.field_laws.proofs.Certified32.{certificate_32}
use Rattle.sketch_laws.proofs.Unique.{numbers_unique}
use Rattle.id_rules.specs.Ids.{KeyPair}
use Rattle.pool_rules.specs.Pools.{is_same_id, is_listed}
use Rattle.pool_rules.specs.Snapshots.{Member, members, ids_of, is_single, sketched_members, sketched_shorts, shorts_of, IsCollisionFree, snapshot_difference, snapshot_sketch}
use Rattle.node_rules.specs.Outcomes.{is_in, missing_short_ids, announcement}
use Rattle.pool_laws.proofs.IdLists.{all_listed}
use Rattle.pair_invariant_laws.proofs.Ids.{listed_head}
use Rattle.id_rules.proofs.Lists.{all_weaker, all_filter}
use Rattle.headline_laws.proofs.Singles.{sketched_apart, sketched_between}

-- ---- members by their ids

-- the member with a sketched short id
by_has : (ms : List Member) (n : ℕ) → has (shorts_of ms) n ≡ true → (P : Member → Type 0) → AllByRecursion P ms → (m : Member) × (m.short ≡ n) × P m
by_has [] n h P each = absurd (let apart : false ≡ true = h in cc)
by_has (m ∷ ms) n h P each =
    ⊎_elim (λ here. (m, eqb-true m.short n here, each.0)) (λ later. by_has ms n later P each.1) (or_cases (m.short == n) (has (shorts_of ms) n) h)

-- a test on the members of a list, by whether a member passes: it is kept, and its short id is among theirs
kept_has : (t : Member → Bool) (ms : List Member) → AllByRecursion (λ m. t m ≡ true → has (shorts_of (filter t ms)) m.short ≡ true) ms
kept_has t [] = tt
kept_has t (m ∷ ms) = (first, all_weaker (λ x. t x ≡ true → has (shorts_of (filter t ms)) x.short ≡ true) (λ x. t x ≡ true → has (shorts_of (filter t (m ∷ ms))) x.short ≡ true) rest ms (kept_has t ms))
  where
    first : t m ≡ true → has (shorts_of (filter t (m ∷ ms))) m.short ≡ true
    first e = ap (λ b. has (shorts_of (cond b (m ∷ filter t ms) (filter t ms))) m.short) e ∙ or_left (m.short == m.short) (has (shorts_of (filter t ms)) m.short) (eq-eqb m.short m.short refl)

    further : (b : Bool) (n : ℕ) → has (shorts_of (filter t ms)) n ≡ true → has (shorts_of (cond b (m ∷ filter t ms) (filter t ms))) n ≡ true
    further true n h = or_right (m.short == n) (has (shorts_of (filter t ms)) n) h
    further false n h = h

    rest : (x : Member) → (t x ≡ true → has (shorts_of (filter t ms)) x.short ≡ true) → t x ≡ true → has (shorts_of (filter t (m ∷ ms))) x.short ≡ true
    rest x f e = further (t m) x.short (f e)

-- a member that passes is among the ids kept
kept_id : (t : Member → Bool) (ms : List Member) → AllByRecursion (λ m. t m ≡ true → is_listed (ids_of (filter t ms)) m.id ≡ true) ms
kept_id t [] = tt
kept_id t (m ∷ ms) = (first, all_weaker (λ x. t x ≡ true → is_listed (ids_of (filter t ms)) x.id ≡ true) (λ x. t x ≡ true → is_listed (ids_of (filter t (m ∷ ms))) x.id ≡ true) rest ms (kept_id t ms))
  where
    first : t m ≡ true → is_listed (ids_of (filter t (m ∷ ms))) m.id ≡ true
    first e = ap (λ b. is_listed (ids_of (cond b (m ∷ filter t ms) (filter t ms))) m.id) e ∙ listed_head m.id (ids_of (filter t ms))

    further : (b : Bool) (id : Hash32) → is_listed (ids_of (filter t ms)) id ≡ true → is_listed (ids_of (cond b (m ∷ filter t ms) (filter t ms))) id ≡ true
    further true id h = or_right (is_same_id m.id id) (is_listed (ids_of (filter t ms)) id) h
    further false id h = h

    rest : (x : Member) → (t x ≡ true → is_listed (ids_of (filter t ms)) x.id ≡ true) → t x ≡ true → is_listed (ids_of (filter t (m ∷ ms))) x.id ≡ true
    rest x f e = further (t m) x.id (f e)

-- ---- lists of facts

head_of : (b : Bool) (R : Member → Type 0) (t : Member → Bool) (m : Member) (rest : List Member) → t m ≡ b → AllByRecursion R (cond b (m ∷ rest) rest) → (t m ≡ true → R m) × AllByRecursion R rest
head_of true R t m rest e k = ((λ h. k.0), k.1)
head_of false R t m rest e k = ((λ h. absurd (both_ways (t m) e h)), k)

all_of_filter : (R : Member → Type 0) (t : Member → Bool) (ms : List Member) → AllByRecursion R (filter t ms) → AllByRecursion (λ m. t m ≡ true → R m) ms
all_of_filter R t [] h = tt
all_of_filter R t (m ∷ ms) h =
    let parts = head_of (t m) R t m (filter t ms) refl h in
    (parts.0, all_of_filter R t ms parts.1)

all_both : (P Q : Member → Type 0) (ms : List Member) → AllByRecursion P ms → AllByRecursion Q ms → AllByRecursion (λ m. P m × Q m) ms
all_both P Q [] h k = tt
all_both P Q (m ∷ ms) h k = ((h.0, k.0), all_both P Q ms h.1 k.1)

add_column : (R : Member → Member → Type 0) (x : Member) (xs ys : List Member) → AllByRecursion (λ q. R x q) ys → AllByRecursion (λ q. AllByRecursion (λ p. R p q) xs) ys → AllByRecursion (λ q. AllByRecursion (λ p. R p q) (x ∷ xs)) ys
add_column R x xs [] h k = tt
add_column R x xs (q ∷ ys) h k = ((h.0, k.0), add_column R x xs ys h.1 k.1)

no_column : (R : Member → Member → Type 0) (ys : List Member) → AllByRecursion (λ q. AllByRecursion (λ p. R p q) []) ys
no_column R [] = tt
no_column R (q ∷ ys) = (tt, no_column R ys)

turned : (R : Member → Member → Type 0) (xs ys : List Member) → AllByRecursion (λ p. AllByRecursion (λ q. R p q) ys) xs → AllByRecursion (λ q. AllByRecursion (λ p. R p q) xs) ys
turned R [] ys h = no_column R ys
turned R (x ∷ xs) ys h = add_column R x xs ys h.0 (turned R xs ys h.1)

members_have : (keys : KeyPair) (P : Hash32 → Type 0) (ids : List Hash32) → AllByRecursion P ids → AllByRecursion (λ m. P m.id) (members keys ids)
members_have keys P [] h = tt
members_have keys P (id ∷ ids) h = (h.0, members_have keys P ids h.1)

ids_have : (keys : KeyPair) (P : Hash32 → Type 0) (ids : List Hash32) → AllByRecursion (λ m. P m.id) (members keys ids) → AllByRecursion P ids
ids_have keys P [] h = tt
ids_have keys P (id ∷ ids) h = (h.0, ids_have keys P ids h.1)

-- ---- the difference

xor_swap : (a b : Bool) → ((a && not b) || (b && not a)) ≡ ((b && not a) || (a && not b))
xor_swap true true = refl
xor_swap true false = refl
xor_swap false true = refl
xor_swap false false = refl

module _ (keys : KeyPair) (ps qs : List Hash32) where
  abbrev P : List Member
  P = members keys ps

  abbrev Q : List Member
  Q = members keys qs

  abbrev IsElement : ℕ → Type 0
  IsElement e = (0 < e) × (e < 2 ^ 32)

  difference_rises : (xs ys : List ℕ) → All IsElement xs → All IsElement ys → AllPairs (λ a b. a ≢ b) xs → AllPairs (λ a b. a ≢ b) ys → IsAscending 1 (2 ^ 32) (difference xs ys)
  difference_rises xs ys in_xs in_ys apart_xs apart_ys =
      let within : All IsElement (difference xs ys) = of_difference IsElement xs ys in_xs in_ys in
      IsAscending-from_AllPairs 1 (2 ^ 32) (difference xs ys) (λ k d inside. (within k d inside).0) (λ k d inside. (within k d inside).1) (difference-rises xs ys apart_xs apart_ys)

  gap_swap : difference (sketched_shorts Q) (sketched_shorts P) ≡ difference (sketched_shorts P) (sketched_shorts Q)
  gap_swap =
      same_rising 1 (2 ^ 32) (difference (sketched_shorts Q) (sketched_shorts P)) (difference (sketched_shorts P) (sketched_shorts Q))
      (difference_rises (sketched_shorts Q) (sketched_shorts P) (sketched_between keys qs) (sketched_between keys ps) (sketched_apart Q) (sketched_apart P))
      (difference_rises (sketched_shorts P) (sketched_shorts Q) (sketched_between keys ps) (sketched_between keys qs) (sketched_apart P) (sketched_apart Q))
      (λ n. has-difference (sketched_shorts Q) (sketched_shorts P) n ∙ (xor_swap (has (sketched_shorts Q) n) (has (sketched_shorts P) n) ∙ sym (has-difference (sketched_shorts P) (sketched_shorts Q) n)))

  -- what answers a sketch that the difference fits is the difference
  pub answered_gap : (c : ℕ) (es : List ℕ) → Answer 32 (sketch_sum (snapshot_sketch Q c) (snapshot_sketch P c)) es → length (snapshot_difference P Q) ≤ c → es ≡ snapshot_difference P Q
  answered_gap c es answer few =
      numbers_unique 32 certificate_32 (sketch_sum (snapshot_sketch Q c) (snapshot_sketch P c)) es (difference (sketched_shorts Q) (sketched_shorts P)) answer
      (difference_answers 32 (sketched_shorts Q) (sketched_shorts P) c (sketched_between keys qs) (sketched_between keys ps) (sketched_apart Q) (sketched_apart P) (subst (λ xs. length xs ≤ c) (sym gap_swap) few))
      ∙ gap_swap

  -- ---- each member of the opener's snapshot

  module _ (es : List ℕ) (is_gap : es ≡ snapshot_difference P Q) (apart : IsCollisionFree P Q) where
    has_es : (n : ℕ) → has es n ≡ ((has (sketched_shorts P) n && not (has (sketched_shorts Q) n)) || (has (sketched_shorts Q) n && not (has (sketched_shorts P) n)))
    has_es n = ap (λ xs. has xs n) is_gap ∙ has-difference (sketched_shorts P) (sketched_shorts Q) n

    -- what one has and the difference lacks, the other has
    shared : (a b d : Bool) → d ≡ ((a && not b) || (b && not a)) → a ≡ true → d ≡ false → b ≡ true
    shared true true d e ha hd = refl
    shared true false d e ha hd = absurd (let apart : true ≡ false = sym e ∙ hd in cc)
    shared false b d e ha hd = absurd (let apart : false ≡ true = ha in cc)

    module _ (Other : Hash32 → Type 0) (announced : AllByRecursion Other (announcement P es)) (theirs : AllByRecursion Other qs) where
      one_of_p : (m : Member) → ((not (is_single P m.short) || is_in es m.short) ≡ true → is_listed (announcement P es) m.id ≡ true) → (is_single P m.short ≡ true → has (sketched_shorts P) m.short ≡ true)
          → (is_single P m.short ≡ true → AllByRecursion (λ q. m.short ≡ q.short → m.id ≡ q.id) (sketched_members Q)) → Other m.id
      one_of_p m told single same = by_test (not (is_single P m.short) || is_in es m.short) refl
        where
          by_test : (b : Bool) → (not (is_single P m.short) || is_in es m.short) ≡ b → Other m.id
          by_test true e = all_listed Other (announcement P es) announced m.id (told e)
          by_test false e =
              let parts = or_parts (not (is_single P m.short)) (is_in es m.short) e in
              let alone : is_single P m.short ≡ true = not-false (is_single P m.short) parts.0 in
              let both : has (sketched_shorts Q) m.short ≡ true = shared (has (sketched_shorts P) m.short) (has (sketched_shorts Q) m.short) (has es m.short) (has_es m.short) (single alone) parts.1 in
              let q = by_has (sketched_members Q) m.short both (λ x. (m.short ≡ x.short → m.id ≡ x.id) × Other x.id) (all_both (λ x. m.short ≡ x.short → m.id ≡ x.id) (λ x. Other x.id) (sketched_members Q) (same alone) (all_filter (λ x. Other x.id) (λ x. is_single Q x.short) Q (members_have keys Other qs theirs))) in
              subst Other (sym (q.2.0 (sym q.1))) q.2.1

      pub all_of_p : AllByRecursion Other ps
      all_of_p =
          ids_have keys Other ps
          (all_weaker (λ m. Facts m) (λ m. Other m.id) (λ m f. one_of_p m f.0 f.1.0 f.1.1) P
          (all_both (λ m. (not (is_single P m.short) || is_in es m.short) ≡ true → is_listed (announcement P es) m.id ≡ true) (λ m. More m) P
          (kept_id (λ m. not (is_single P m.short) || is_in es m.short) P)
          (all_both (λ m. is_single P m.short ≡ true → has (sketched_shorts P) m.short ≡ true) (λ m. is_single P m.short ≡ true → AllByRecursion (λ q. m.short ≡ q.short → m.id ≡ q.id) (sketched_members Q)) P
          (kept_has (λ m. is_single P m.short) P) (all_of_filter (λ m. AllByRecursion (λ q. m.short ≡ q.short → m.id ≡ q.id) (sketched_members Q)) (λ m. is_single P m.short) P apart))))
        where
          More : Member → Type 0
          More m = (is_single P m.short ≡ true → has (sketched_shorts P) m.short ≡ true) × (is_single P m.short ≡ true → AllByRecursion (λ q. m.short ≡ q.short → m.id ≡ q.id) (sketched_members Q))

          Facts : Member → Type 0
          Facts m = ((not (is_single P m.short) || is_in es m.short) ≡ true → is_listed (announcement P es) m.id ≡ true) × More m

    -- ---- each member of the accepter's

    -- an ask is what the difference has and the opener hasn't sketched
    asks_has : (n : ℕ) → has (missing_short_ids P es) n ≡ (has es n && not (is_in (sketched_shorts P) n))
    asks_has n = has-filter (λ x. not (is_in (sketched_shorts P) x)) es n

    unasked : (a b d k : Bool) → d ≡ ((a && not b) || (b && not a)) → k ≡ (d && not a) → b ≡ true → k ≡ false → a ≡ true
    unasked true b d k e f hb hk = refl
    unasked false true d k e f hb hk = absurd (let apart : true ≡ false = sym (f ∙ ap (λ x. x && true) e) ∙ hk in cc)
    unasked false false d k e f hb hk = absurd (let apart : false ≡ true = hb in cc)

    module _ (Other : Hash32 → Type 0) (announced : AllByRecursion Other (announcement Q (missing_short_ids P es))) (theirs : AllByRecursion Other ps) where
      one_of_q : (m : Member) → ((not (is_single Q m.short) || is_in (missing_short_ids P es) m.short) ≡ true → is_listed (announcement Q (missing_short_ids P es)) m.id ≡ true) → (is_single Q m.short ≡ true → has (sketched_shorts Q) m.short ≡ true)
          → (is_single Q m.short ≡ true → AllByRecursion (λ p. p.short ≡ m.short → p.id ≡ m.id) (sketched_members P)) → Other m.id
      one_of_q m told single same = by_test (not (is_single Q m.short) || is_in (missing_short_ids P es) m.short) refl
        where
          by_test : (b : Bool) → (not (is_single Q m.short) || is_in (missing_short_ids P es) m.short) ≡ b → Other m.id
          by_test true e = all_listed Other (announcement Q (missing_short_ids P es)) announced m.id (told e)
          by_test false e =
              let parts = or_parts (not (is_single Q m.short)) (is_in (missing_short_ids P es) m.short) e in
              let alone : is_single Q m.short ≡ true = not-false (is_single Q m.short) parts.0 in
              let both : has (sketched_shorts P) m.short ≡ true = unasked (has (sketched_shorts P) m.short) (has (sketched_shorts Q) m.short) (has es m.short) (has (missing_short_ids P es) m.short) (has_es m.short) (asks_has m.short) (single alone) parts.1 in
              let p = by_has (sketched_members P) m.short both (λ x. (x.short ≡ m.short → x.id ≡ m.id) × Other x.id) (all_both (λ x. x.short ≡ m.short → x.id ≡ m.id) (λ x. Other x.id) (sketched_members P) (same alone) (all_filter (λ x. Other x.id) (λ x. is_single P x.short) P (members_have keys Other ps theirs))) in
              subst Other (p.2.0 p.1) p.2.1

      pub all_of_q : AllByRecursion Other qs
      all_of_q =
          ids_have keys Other qs
          (all_weaker (λ m. Facts m) (λ m. Other m.id) (λ m f. one_of_q m f.0 f.1.0 f.1.1) Q
          (all_both (λ m. (not (is_single Q m.short) || is_in (missing_short_ids P es) m.short) ≡ true → is_listed (announcement Q (missing_short_ids P es)) m.id ≡ true) (λ m. More m) Q
          (kept_id (λ m. not (is_single Q m.short) || is_in (missing_short_ids P es) m.short) Q)
          (all_both (λ m. is_single Q m.short ≡ true → has (sketched_shorts Q) m.short ≡ true) (λ m. is_single Q m.short ≡ true → AllByRecursion (λ p. p.short ≡ m.short → p.id ≡ m.id) (sketched_members P)) Q
          (kept_has (λ m. is_single Q m.short) Q)
          (all_of_filter (λ q. AllByRecursion (λ p. p.short ≡ q.short → p.id ≡ q.id) (sketched_members P)) (λ m. is_single Q m.short) Q (turned (λ p q. p.short ≡ q.short → p.id ≡ q.id) (sketched_members P) (sketched_members Q) apart)))))
        where
          More : Member → Type 0
          More m = (is_single Q m.short ≡ true → has (sketched_shorts Q) m.short ≡ true) × (is_single Q m.short ≡ true → AllByRecursion (λ p. p.short ≡ m.short → p.id ≡ m.id) (sketched_members P))

          Facts : Member → Type 0
          Facts m = ((not (is_single Q m.short) || is_in (missing_short_ids P es) m.short) ≡ true → is_listed (announcement Q (missing_short_ids P es)) m.id ≡ true) × More m
