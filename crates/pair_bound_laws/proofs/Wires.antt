-- How many messages and bytes are on the way at most, so that a delivery of 2 ^ 64 - 1 bytes is one of all.
use Rattle.std.proofs.Common.{◌≡◌, ◌≤◌, ℕ, ◌+◌, ◌*◌, ◌-◌, ◌^◌, not, Bool, true, false, cond, List, [], ◌∷◌, ◌++◌, length, filter, refl, ap, arith, lit≤}
use Rattle.std.specs.List.{AllByRecursion}
use Rattle.std.proofs.lemmas.List.{length-append, length-map}
use Rattle.std.proofs.lemmas.List.Elements.{filter-append}
use Rattle.base_types.specs.declared.lists.Hash32.{Hash32}
use Rattle.wire_rules.specs.Layout.{frame_of, wire_bytes, message_bytes}
use Rattle.wire_rules.specs.Limits.{IsFrame, IsMessage}
use Rattle.wire_rules.specs.declared.limits.TheConstants.{PAYLOAD_LIMIT}
use Rattle.wire_rules.specs.declared.message.Message.{Message}
use Rattle.wire_rules.specs.declared.message.Message.TheVariants as message
use Rattle.stream_laws.proofs.Fronts.{frame-length}
use Rattle.wire_laws.proofs.Sound.{frame_of-sound}
use Rattle.pool_rules.specs.Pools.{is_in_pool, pool_ids}
use Rattle.pool_rules.specs.declared.limits.TheConstants.{POOL_LIMIT}
use Rattle.node_rules.specs.State.{NodeState}
use Rattle.node_rules.specs.Invariant.{IsNode, IsWanting}
use Rattle.pair_invariant_rules.specs.Pairs.{Pair}
use Rattle.pair_invariant_rules.specs.Wants.{requested_ids_of, requested_ids, carried_transactions_of, carried_transactions, HasTxEntries, IsHonest, AreWantsOf}
use Rattle.pool_laws.proofs.IdLists.{distinct_right}
use Rattle.pool_laws.proofs.PoolIds.{ids_within}
use Rattle.pool_laws.proofs.IdLists.{distinct_filter}
use Rattle.pair_bound_laws.specs.Costs.{total_weight, handshake_weight, unasking_weight, getdata_weight, tx_weight, HasEntries, IsFilled}
use Rattle.pair_bound_laws.specs.Keeping.{IsBudgetedPair}
use Rattle.pair_bound_laws.proofs.Totals.{total_items}

-- ---- bytes of messages

most_bytes : (payload : ℕ) → payload ≤ PAYLOAD_LIMIT → 24 + payload ≤ 4000024
most_bytes payload h = omega (arith, h)

wire_short : (magic : List ℕ) (ms : List Message) → length magic ≡ 4 → AllByRecursion IsMessage ms → length (wire_bytes magic ms) ≤ 4000024 * length ms
wire_short magic [] four h = lit≤ tt
wire_short magic (m ∷ ms) four h =
    let sound : IsFrame (frame_of m) = frame_of-sound m h.0 in
    let one = frame-length magic (frame_of m) four sound in
    let few = most_bytes (length (frame_of m).payload) sound.within in
    let rest = wire_short magic ms four h.1 in
    let sum = length-append (message_bytes magic m) (wire_bytes magic ms) in
    omega (arith, one, few, rest, sum)

-- ---- messages by kinds

kind_counts : (m : Message) → IsHonest m → IsFilled m → 1 ≤ unasking_weight m + handshake_weight m + getdata_weight m + tx_weight m
unfolding unasking_weight handshake_weight getdata_weight tx_weight HasTxEntries HasEntries
kind_counts (message.NotFound es) h k = absurd (h.honest)
kind_counts (message.Other command payload) h k = absurd (k.filled)
kind_counts _ h k = lit≤ tt

kinds_count : (ms : List Message) → AllByRecursion IsHonest ms → AllByRecursion IsFilled ms → length ms ≤ total_weight unasking_weight ms + total_weight handshake_weight ms + total_weight getdata_weight ms + total_weight tx_weight ms
unfolding total_weight
kinds_count [] h k = lit≤ tt
kinds_count (m ∷ ms) h k = let one = kind_counts m h.0 k.0 in let rest = kinds_count ms h.1 k.1 in omega (arith, one, rest)

asking_items : (m : Message) → IsFilled m → getdata_weight m ≤ length (requested_ids_of m)
unfolding getdata_weight requested_ids_of HasEntries
asking_items (message.GetData []) h = absurd (h.filled)
asking_items (message.GetData (e ∷ es)) h = omega arith
asking_items _ h = omega arith

cargo_items : (m : Message) → IsFilled m → tx_weight m ≤ length (carried_transactions_of m)
unfolding tx_weight carried_transactions_of
cargo_items (message.Tx tx) h = lit≤ tt
cargo_items _ h = omega arith

-- ---- ids asked for

filter_split : (test : Hash32 → Bool) (ids : List Hash32) → length ids ≡ length (filter test ids) + length (filter (λ id. not (test id)) ids)
filter_split test [] = refl
filter_split test (x ∷ xs) = by_test (test x) (filter_split test xs)
  where
    by_test : (b : Bool) → length xs ≡ length (filter test xs) + length (filter (λ id. not (test id)) xs)
        → length (x ∷ xs) ≡ length (cond b (x ∷ filter test xs) (filter test xs)) + length (cond (not b) (x ∷ filter (λ id. not (test id)) xs) (filter (λ id. not (test id)) xs))
    by_test true e = omega (arith, e)
    by_test false e = omega (arith, e)

filter_passes : (test : Hash32 → Bool) (ids : List Hash32) → AllByRecursion (λ id. test id ≡ true) (filter test ids)
filter_passes test [] = tt
filter_passes test (x ∷ xs) = by_test (test x) refl (filter_passes test xs)
  where
    by_test : (b : Bool) → test x ≡ b → AllByRecursion (λ id. test id ≡ true) (filter test xs) → AllByRecursion (λ id. test id ≡ true) (cond b (x ∷ filter test xs) (filter test xs))
    by_test true e h = (e, h)
    by_test false e h = h

asked_few : (s : NodeState) → IsWanting s → length s.wants.asked ≤ 50000
asked_few s w =
    let here = ids_within (filter (is_in_pool s.pool) s.wants.asked) s.pool (distinct_filter (is_in_pool s.pool) s.wants.asked (distinct_right s.wants.wanted s.wants.asked w.once)) (filter_passes (is_in_pool s.pool) s.wants.asked) in
    let both = filter_split (is_in_pool s.pool) s.wants.asked in
    let sum = ap length (filter-append (λ id. not (is_in_pool s.pool id)) s.wants.wanted s.wants.asked) in
    let parts = length-append (filter (λ id. not (is_in_pool s.pool id)) s.wants.wanted) (filter (λ id. not (is_in_pool s.pool id)) s.wants.asked) in
    let room = w.room in
    let few : length s.wants.asked ≤ POOL_LIMIT = omega (arith, here, both, sum, parts, room) in
    below few
  where
    below : length s.wants.asked ≤ POOL_LIMIT → length s.wants.asked ≤ 50000
    below h = omega (arith, h)

-- what is asked for is on its way or asked for on the way
flow_counts : (reader holder : NodeState) (to_reader to_holder : List Message) → IsWanting reader → AreWantsOf reader holder to_reader to_holder → AllByRecursion IsFilled to_reader → AllByRecursion IsFilled to_holder
    → total_weight tx_weight to_reader + total_weight getdata_weight to_holder ≤ 50000
flow_counts reader holder to_reader to_holder wanting w filled_r filled_h =
    let few = asked_few reader wanting in
    let flow = ap length w.flow in
    let parts = length-append (pool_ids (carried_transactions to_reader)) (requested_ids to_holder) in
    let ids = length-map (carried_transactions to_reader) (λ t. t.id) in
    let tx_weight = total_items tx_weight carried_transactions_of cargo_items to_reader filled_r in
    let getdata_weight = total_items getdata_weight requested_ids_of asking_items to_holder filled_h in
    omega (arith, few, flow, parts, ids, tx_weight, getdata_weight)

-- ---- wires

part_short : (unread wire all : List ℕ) → unread ++ wire ≡ all → length wire ≤ length all
part_short unread wire all e = let sum = length-append unread wire in let same = ap length e in omega (arith, sum, same)

enough : (n bytes wire : ℕ) → n ≤ 100100 → bytes ≤ 4000024 * n → wire ≤ bytes → wire ≤ 2 ^ 64 - 1
enough n bytes wire a b c = omega (arith, a, b, c)

module _ (l : ℕ) (p : Pair) (k : IsBudgetedPair l p) where
  few_a : length p.to_a ≤ 100100
  few_a =
      let node_a : IsNode p.a = k.kept.node_a in
      let node_b : IsNode p.b = k.kept.node_b in
      let count = kinds_count p.to_a k.kept.wants.mine.honest k.bounding.filled_a in
      let mine = flow_counts p.a p.b p.to_a p.to_b node_a.store.wanting k.kept.wants.mine k.bounding.filled_a k.bounding.filled_b in
      let theirs = flow_counts p.b p.a p.to_b p.to_a node_b.store.wanting k.kept.wants.theirs k.bounding.filled_b k.bounding.filled_a in
      let ways = k.bounding.ways in
      let greets = k.bounding.greet_ways in
      let at = k.at in
      let most = node_a.config.most in
      omega (arith, count, mine, theirs, ways, greets, at, most)

  few_b : length p.to_b ≤ 100100
  few_b =
      let node_a : IsNode p.a = k.kept.node_a in
      let node_b : IsNode p.b = k.kept.node_b in
      let count = kinds_count p.to_b k.kept.wants.theirs.honest k.bounding.filled_b in
      let mine = flow_counts p.a p.b p.to_a p.to_b node_a.store.wanting k.kept.wants.mine k.bounding.filled_a k.bounding.filled_b in
      let theirs = flow_counts p.b p.a p.to_b p.to_a node_b.store.wanting k.kept.wants.theirs k.bounding.filled_b k.bounding.filled_a in
      let ways = k.bounding.ways in
      let greets = k.bounding.greet_ways in
      let at = k.at in
      let most = node_a.config.most in
      omega (arith, count, mine, theirs, ways, greets, at, most)

  pub short_a : (magic unread wire : List ℕ) → length magic ≡ 4 → unread ++ wire ≡ wire_bytes magic p.to_a → length wire ≤ 2 ^ 64 - 1
  short_a magic unread wire four e = enough (length p.to_a) (length (wire_bytes magic p.to_a)) (length wire) few_a (wire_short magic p.to_a four k.kept.to_a) (part_short unread wire (wire_bytes magic p.to_a) e)

  pub short_b : (magic unread wire : List ℕ) → length magic ≡ 4 → unread ++ wire ≡ wire_bytes magic p.to_b → length wire ≤ 2 ^ 64 - 1
  short_b magic unread wire four e = enough (length p.to_b) (length (wire_bytes magic p.to_b)) (length wire) few_b (wire_short magic p.to_b four k.kept.to_b) (part_short unread wire (wire_bytes magic p.to_b) e)
