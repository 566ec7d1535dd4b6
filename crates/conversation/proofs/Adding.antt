-- A transaction that is added.
use Rattle.std.proofs.Common.{◌≡◌, ◌<◌, ◌&&◌, ℕ, nat_le, not, Bool, true, false, cond, List, [], ◌∷◌, ◌++◌, length, is_some, None, refl, sym, ap, ◌∙◌, subst, append-nil, arith, lit≤}
use Rattle.std.specs.List.{AllByRecursion}
use Rattle.std.proofs.lemmas.Bool.{leb-false, or_parts}
use Rattle.std.proofs.lemmas.List.{length-map}
use Rattle.std.proofs.lemmas.List.Elements.{filter-append}
use Rattle.base_types.specs.declared.lists.Hash32.{Hash32}
use Rattle.id_rules.specs.Ids.{KeyPair, wtxid}
use Rattle.wire_rules.specs.Limits.{IsMessage}
use Rattle.pool_rules.specs.Pools.{Transaction, has_byte_room, is_in_pool, is_listed, is_same_id, transaction_of, without_id}
use Rattle.pool_rules.specs.Snapshots.{Member, ids_of, without_member}
use Rattle.pool_rules.specs.declared.limits.TheConstants.{POOL_LIMIT}
use Rattle.pool_laws.proofs.IdLists.{is_same_id-self, unlisted}
use Rattle.pool_laws.proofs.Ids.{wtxid-bytes}
use Rattle.pool_laws.proofs.PoolIds.{ids_within}
use Rattle.node_rules.specs.Additions.{after_addition, after_addition_by, is_full, on_addition, on_addition_by, with_member, with_pooled}
use Rattle.node_rules.specs.Invariant.{IsMember, IsNode}
use Rattle.node_rules.specs.Stages.{is_after_handshake}
use Rattle.node_rules.specs.State.{NodeState, NodeView, node_keys, open_wants, taken_room}
use Rattle.node_rules.specs.Turns.{after_turn, inv_of, turn_with, unchanged}
use Rattle.node_rules.specs.declared.added.Added.TheVariants as added
use Rattle.invariant_laws.proofs.Sendable.{sent_inv}
use Rattle.invariant_laws.proofs.Stores.{IsId}
use Rattle.recon_set.proofs.Changes.{without_none}
use Rattle.relay_store.specs.Holdings.{Holdings}
use Rattle.conversation.proofs.Relaying.{quiet, with_holdings}

pub id-sendable : (id : Hash32) (tx : List ℕ) → id ≡ wtxid tx → AllByRecursion IsMessage (inv_of (id ∷ []))
id-sendable id tx e = sent_inv (id ∷ []) (lit≤ tt) (subst IsId (sym e) (wtxid-bytes tx), tt)

-- ---- the set

pooled_members : (keys : KeyPair) (pool : List Transaction) (ms : List Member) → AllByRecursion (IsMember keys pool) ms → AllByRecursion (λ id. is_in_pool pool id ≡ true) (ids_of ms)
pooled_members keys pool [] h = tt
pooled_members keys pool (m ∷ ms) h = (h.0.pooled, pooled_members keys pool ms h.1)

module _ (s : NodeState) (node : IsNode s) (id : Hash32) where
  pub set_absent : is_in_pool s.pool id ≡ false → is_listed (ids_of s.set) id ≡ false
  set_absent out =
      unlisted (λ x. is_in_pool s.pool x ≡ true) (ids_of s.set) id (pooled_members (node_keys s) s.pool s.set node.setup.set.each) (λ h. let apart : true ≡ false = sym h ∙ out in cc)

  pub set_room : (t : Transaction) → is_listed (open_wants s) t.id ≡ false → is_full s t ≡ false → length s.set < POOL_LIMIT
  set_room t unknown room =
      let parts = or_parts (not (has_byte_room s.pool t.bytes)) (not (is_listed (open_wants s) t.id) && nat_le POOL_LIMIT (taken_room s)) room in
      let left = leb-false POOL_LIMIT (taken_room s) (sym (ap (λ k. not k && nat_le POOL_LIMIT (taken_room s)) unknown) ∙ parts.1) in
      let few = ids_within (ids_of s.set) s.pool node.setup.set.once (pooled_members (node_keys s) s.pool s.set node.setup.set.each) in
      let long = length-map s.set (λ m. m.id) in
      omega (arith, left, few, long)

-- a member is put in and taken out again
pub without_last : (ms : List Member) (m : Member) → is_listed (ids_of ms) m.id ≡ false → without_member (ms ++ m ∷ []) m.id ≡ ms
without_last ms m out =
    filter-append (λ other. not (is_same_id other.id m.id)) ms (m ∷ [])
    ∙ ap (λ xs. xs ++ without_member (m ∷ []) m.id) (without_none ms m.id out)
    ∙ ap (λ b. ms ++ cond (not b) (m ∷ []) []) (is_same_id-self m.id)
    ∙ append-nil ms

-- ---- what becomes of it

module _ (s : NodeState) (tx : List ℕ) (unended : s.ended ≡ None) where
  by_pool : (present full : Bool) → is_in_pool s.pool (wtxid tx) ≡ present → is_full s (transaction_of tx) ≡ full → on_addition s tx ≡ on_addition_by false present full s (transaction_of tx)
  by_pool present full p f =
      ap (λ o. on_addition_by (is_some o) (is_in_pool s.pool (wtxid tx)) (is_full s (transaction_of tx)) s (transaction_of tx)) unended
      ∙ ap (λ b. on_addition_by false b (is_full s (transaction_of tx)) s (transaction_of tx)) p
      ∙ ap (λ b. on_addition_by false present b s (transaction_of tx)) f

  pub present_addition : is_in_pool s.pool (wtxid tx) ≡ true → on_addition s tx ≡ record { added = added.Present; turn = unchanged s }
  unfolding on_addition_by
  present_addition p = by_pool true (is_full s (transaction_of tx)) p refl

  pub full_addition : is_in_pool s.pool (wtxid tx) ≡ false → is_full s (transaction_of tx) ≡ true → on_addition s tx ≡ record { added = added.Full; turn = unchanged s }
  unfolding on_addition_by
  full_addition p f = by_pool false true p f

  pub new_addition : is_in_pool s.pool (wtxid tx) ≡ false → is_full s (transaction_of tx) ≡ false → on_addition s tx ≡ record { added = added.New; turn = after_addition s (transaction_of tx) }
  unfolding on_addition_by
  new_addition p f = by_pool false false p f

module _ (s : NodeState) (t : Transaction) where
  pub known_addition : (not (is_listed (open_wants s) t.id) && is_after_handshake s.machine.phase) ≡ false → after_addition s t ≡ unchanged (with_pooled s t)
  unfolding after_addition_by
  known_addition h = by_both (is_listed (open_wants s) t.id) (is_after_handshake s.machine.phase) h
    where
      by_both : (k p : Bool) → (not k && p) ≡ false → after_addition_by k p s.plain (with_pooled s t) t.id ≡ unchanged (with_pooled s t)
      by_both true p h = refl
      by_both false false h = refl
      by_both false true h = absurd (let apart : true ≡ false = h in cc)

  news : (k p : Bool) → (not k && p) ≡ true → (k ≡ false) × (p ≡ true)
  news true p h = absurd (let apart : false ≡ true = h in cc)
  news false p h = (refl, h)

  pub news_parts : (not (is_listed (open_wants s) t.id) && is_after_handshake s.machine.phase) ≡ true → (is_listed (open_wants s) t.id ≡ false) × (is_after_handshake s.machine.phase ≡ true)
  news_parts h = news (is_listed (open_wants s) t.id) (is_after_handshake s.machine.phase) h

  by_news : (plain : Bool) → s.plain ≡ plain → is_listed (open_wants s) t.id ≡ false → is_after_handshake s.machine.phase ≡ true → after_addition s t ≡ after_addition_by false true plain (with_pooled s t) t.id
  by_news plain e k p =
      ap (λ b. after_addition_by b (is_after_handshake s.machine.phase) s.plain (with_pooled s t) t.id) k
      ∙ ap (λ b. after_addition_by false b s.plain (with_pooled s t) t.id) p
      ∙ ap (λ b. after_addition_by false true b (with_pooled s t) t.id) e

  pub announced_addition : s.plain ≡ true → is_listed (open_wants s) t.id ≡ false → is_after_handshake s.machine.phase ≡ true → after_addition s t ≡ turn_with (with_pooled s t) (inv_of (t.id ∷ []))
  unfolding after_addition_by
  announced_addition e k p = by_news true e k p

  pub member_addition : s.plain ≡ false → is_listed (open_wants s) t.id ≡ false → is_after_handshake s.machine.phase ≡ true → after_addition s t ≡ unchanged (with_member (with_pooled s t) t.id)
  unfolding after_addition_by
  member_addition e k p = by_news false e k p

-- ---- at a conversation

module _ (v : NodeView) (tx : List ℕ) (id : Hash32) (named : id ≡ wtxid tx) where
  pub known_view : (h : Holdings) → h ≡ record { pool = v.state.pool ++ transaction_of tx ∷ []; wants = record v.state.wants { wanted = without_id v.state.wants.wanted id } }
      → (not (is_listed (open_wants v.state) id) && is_after_handshake v.state.machine.phase) ≡ false → with_holdings v h ≡ after_turn v (after_addition v.state (transaction_of tx))
  known_view h is known =
      let k : (not (is_listed (open_wants v.state) (wtxid tx)) && is_after_handshake v.state.machine.phase) ≡ false =
      subst (λ x. (not (is_listed (open_wants v.state) x) && is_after_handshake v.state.machine.phase) ≡ false) named known
      in
      ap (with_holdings v) is
      ∙ ap (λ x. record v { state = record v.state { pool = v.state.pool ++ transaction_of tx ∷ []; wants = record v.state.wants { wanted = without_id v.state.wants.wanted x } } }) named
      ∙ sym (ap (after_turn v) (known_addition v.state (transaction_of tx) k) ∙ quiet v (with_pooled v.state (transaction_of tx)))

  module _ (new : NodeView) (known : (not (is_listed (open_wants v.state) id) && is_after_handshake v.state.machine.phase) ≡ true) where
    parts : (is_listed (open_wants v.state) (wtxid tx) ≡ false) × (is_after_handshake v.state.machine.phase ≡ true)
    parts = news_parts v.state (transaction_of tx) (subst (λ x. (not (is_listed (open_wants v.state) x) && is_after_handshake v.state.machine.phase) ≡ true) named known)

    pub unknown_id : is_listed (open_wants v.state) id ≡ false
    unknown_id = subst (λ x. is_listed (open_wants v.state) x ≡ false) (sym named) parts.0

    pub past_handshake : is_after_handshake v.state.machine.phase ≡ true
    past_handshake = parts.1

    pub announced_view : v.state.plain ≡ true → new ≡ after_turn v (turn_with (with_pooled v.state (transaction_of tx)) (inv_of (id ∷ []))) → new ≡ after_turn v (after_addition v.state (transaction_of tx))
    announced_view plain is =
        is
        ∙ ap (λ x. after_turn v (turn_with (with_pooled v.state (transaction_of tx)) (inv_of (x ∷ [])))) named
        ∙ sym (ap (after_turn v) (announced_addition v.state (transaction_of tx) plain parts.0 parts.1))

    pub member_view : v.state.plain ≡ false → new ≡ record v { state = with_member (with_pooled v.state (transaction_of tx)) id } → new ≡ after_turn v (after_addition v.state (transaction_of tx))
    member_view whole is =
        is
        ∙ ap (λ x. record v { state = with_member (with_pooled v.state (transaction_of tx)) x }) named
        ∙ sym (ap (after_turn v) (member_addition v.state (transaction_of tx) whole parts.0 parts.1) ∙ quiet v (with_member (with_pooled v.state (transaction_of tx)) (wtxid tx)))
