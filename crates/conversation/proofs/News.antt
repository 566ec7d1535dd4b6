-- What is new of an announcement.
use Rattle.std.proofs.Common.{◌≡◌, ◌≤◌, ◌||◌, ◌+◌, ℕ, nat_lt, nat_le, not, Bool, true, false, List, ◌++◌, length, filter, Some, None, Ok, Err, IsTrue, sym, ap, ◌∙◌, subst, arith}
use Rattle.std.specs.List.{AllByRecursion}
use Rattle.std.proofs.lemmas.Bool.{or_parts}
use Rattle.std.proofs.lemmas.Bool.Decides.{nat_tests}
use Rattle.base_types.specs.declared.lists.Hash32.{Hash32}
use Rattle.id_rules.specs.Bytes.{is_id}
use Rattle.id_rules.proofs.Lists.{all_weaker}
use Rattle.wire_rules.specs.Limits.{IsMessage}
use Rattle.wire_rules.specs.declared.message.InvEntry.{InvEntry}
use Rattle.wire_rules.specs.declared.message.Message.TheVariants as message
use Rattle.pool_rules.specs.Pools.{AreDistinctIds, IsPool, is_in_pool, is_listed}
use Rattle.pool_rules.specs.Snapshots.{Member}
use Rattle.pool_rules.specs.declared.limits.TheConstants.{POOL_LIMIT}
use Rattle.pool_laws.proofs.IdLists.{distinct_both, distinct_left, distinct_right, listed_append}
use Rattle.node_rules.specs.Invariant.{IsNode, IsStore}
use Rattle.node_rules.specs.Inventory.{inv_by, is_known, on_inv, unknown_ids, without_announced, wtxids_of}
use Rattle.node_rules.specs.Stages.{is_after_handshake}
use Rattle.node_rules.specs.State.{NodeState, NodeView, open_wants, taken_room}
use Rattle.node_rules.specs.Steps.{in_relay}
use Rattle.node_rules.specs.Turns.{Turn, after_turn, getdata_of, refusal, turn_with, unchanged}
use Rattle.node_rules.specs.declared.config.Role.{Role}
use Rattle.node_rules.specs.declared.config.Role.TheVariants as role
use Rattle.node_rules.specs.declared.end.End.{End}
use Rattle.node_rules.specs.declared.end.End.TheVariants as end
use Rattle.node_rules.specs.Inventory as node
use Rattle.node_laws.proofs.NewIds.{new_distinct, new_unknown}
use Rattle.relay_store.specs.Holdings.{AreHoldings, Holdings, holdings_of, with_wanted}
use Rattle.conversation.specs.Handled.{IsStep}
use Rattle.conversation.specs.Inventories.{want_turn}
use Rattle.conversation.specs.declared.stop.Stop.{Stop}
use Rattle.conversation.specs.declared.stop.Stop.TheVariants as stop
use Rattle.conversation.proofs.Relaying.{quiet, relayed-sendable, taken, with_holdings}

-- ---- a store's ids

module _ (s : NodeState) (store : IsStore s) where
  pub are_holdings : AreHoldings (holdings_of s)
  are_holdings u e = record {
    pool = subst (λ (h : Holdings). IsPool h.pool) (sym e) store.pool;
    wanting = record {
      once = subst (λ (h : Holdings). AreDistinctIds (h.wants.wanted ++ h.wants.asked)) (sym e) store.wanting.once;
      unwanted = subst (λ (h : Holdings). AllByRecursion (λ id. IsTrue (not (is_in_pool h.pool id))) h.wants.wanted) (sym e) store.wanting.unwanted;
      room = subst (λ (h : Holdings). length h.pool + length (filter (λ id. not (is_in_pool h.pool id)) (h.wants.wanted ++ h.wants.asked)) ≤ POOL_LIMIT) (sym e) store.wanting.room;
    };
    ids = subst (λ (h : Holdings). AllByRecursion (λ id. IsTrue (is_id id)) (h.wants.wanted ++ h.wants.asked)) (sym e) store.ids;
    serving = record {
      once = subst (λ (h : Holdings). AreDistinctIds h.wants.served) (sym e) store.serving.once;
      pooled = subst (λ (h : Holdings). AllByRecursion (λ id. IsTrue (is_in_pool h.pool id)) h.wants.served) (sym e) store.serving.pooled;
    };
  }

  module _ (es : List InvEntry) where
    abbrev fresh : List Hash32
    fresh = unknown_ids s es

    unknown : AllByRecursion (λ id. is_known s id ≡ false) fresh
    unknown = new_unknown (is_known s) (wtxids_of es)

    unwanted : (id : Hash32) → is_known s id ≡ false → (is_listed s.wants.wanted id || is_listed s.wants.asked id) ≡ false
    unwanted id h = sym (listed_append s.wants.wanted s.wants.asked id) ∙ (or_parts (is_in_pool s.pool id) (is_listed (open_wants s) id) h).1

    pub fresh_absent : AllByRecursion (λ id. is_in_pool s.pool id ≡ false) fresh
    fresh_absent =
        all_weaker (λ id. is_known s id ≡ false) (λ id. is_in_pool s.pool id ≡ false) (λ id h. (or_parts (is_in_pool s.pool id) (is_listed (open_wants s) id) h).0) fresh unknown

    pub fresh_wanted : AreDistinctIds (s.wants.wanted ++ fresh)
    fresh_wanted =
        distinct_both s.wants.wanted fresh (distinct_left s.wants.wanted s.wants.asked store.wanting.once) (new_distinct (is_known s) (wtxids_of es))
        (all_weaker (λ id. is_known s id ≡ false) (λ id. is_listed s.wants.wanted id ≡ false) (λ id h. (or_parts (is_listed s.wants.wanted id) (is_listed s.wants.asked id) (unwanted id h)).0) fresh unknown)

    pub fresh_asked : AreDistinctIds (s.wants.asked ++ fresh)
    fresh_asked =
        distinct_both s.wants.asked fresh (distinct_right s.wants.wanted s.wants.asked store.wanting.once) (new_distinct (is_known s) (wtxids_of es))
        (all_weaker (λ id. is_known s id ≡ false) (λ id. is_listed s.wants.asked id ≡ false) (λ id h. (or_parts (is_listed s.wants.wanted id) (is_listed s.wants.asked id) (unwanted id h)).1) fresh unknown)

-- ---- by the room

no_room : (n : ℕ) → nat_le n POOL_LIMIT ≡ false → nat_lt POOL_LIMIT n ≡ true
no_room n h = grind (arith, nat_tests)

some_room : (n : ℕ) → nat_le n POOL_LIMIT ≡ true → nat_lt POOL_LIMIT n ≡ false
some_room n h = grind (arith, nat_tests)

module _ (s : NodeState) (es : List InvEntry) (ids : List Hash32) (is : ids ≡ unknown_ids s es) where
  pub turn_full : nat_le (taken_room s + length ids) POOL_LIMIT ≡ false → want_turn s es ≡ refusal s end.PoolFull
  unfolding inv_by
  turn_full h =
      ap (λ b. inv_by b s.config.role s s.set (unknown_ids s es)) (no_room (taken_room s + length (unknown_ids s es)) (subst (λ xs. nat_le (taken_room s + length xs) POOL_LIMIT ≡ false) is h))

  turn_with_room : (r : Role) → s.config.role ≡ r → nat_le (taken_room s + length ids) POOL_LIMIT ≡ true → want_turn s es ≡ inv_by false r s s.set ids
  turn_with_room r e h =
      ap (λ b. inv_by b s.config.role s s.set (unknown_ids s es)) (some_room (taken_room s + length (unknown_ids s es)) (subst (λ xs. nat_le (taken_room s + length xs) POOL_LIMIT ≡ true) is h))
      ∙ ap (λ r. inv_by false r s s.set (unknown_ids s es)) e
      ∙ ap (inv_by false r s s.set) (sym is)

  pub turn_opener : s.config.role ≡ role.Opener → nat_le (taken_room s + length ids) POOL_LIMIT ≡ true → want_turn s es ≡ unchanged (node.with_wanted s s.set (s.wants.wanted ++ ids))
  unfolding inv_by
  turn_opener e h = turn_with_room role.Opener e h

  pub turn_accepter : s.config.role ≡ role.Accepter → nat_le (taken_room s + length ids) POOL_LIMIT ≡ true
      → want_turn s es ≡ turn_with (node.with_asked s s.set (s.wants.asked ++ ids)) (getdata_of ids)
  unfolding inv_by
  turn_accepter e h = turn_with_room role.Accepter e h

pub wants_more : (v : NodeView) (es : List InvEntry) (ids : List Hash32) (h : Holdings) → v.state.ended ≡ None → ids ≡ unknown_ids v.state es
    → v.state.config.role ≡ role.Opener → nat_le (taken_room v.state + length ids) POOL_LIMIT ≡ true → h ≡ with_wanted (holdings_of v.state) (v.state.wants.wanted ++ ids)
    → IsStep (want_turn v.state es) v (with_holdings v h) (Ok tt)
wants_more v es ids h none is role room e =
    let t = turn_opener v.state es ids is role room in
    taken (want_turn v.state es) v (with_holdings v h)
    (ap (with_holdings v) e ∙ sym (ap (after_turn v) t ∙ quiet v (node.with_wanted v.state v.state.set (v.state.wants.wanted ++ ids))))
    (ap (λ (t : Turn). t.state.ended) t ∙ none)

pub asks_more : (v new : NodeView) (es : List InvEntry) (ids : List Hash32) → v.state.ended ≡ None → ids ≡ unknown_ids v.state es
    → v.state.config.role ≡ role.Accepter → nat_le (taken_room v.state + length ids) POOL_LIMIT ≡ true
    → new ≡ after_turn v (turn_with (node.with_asked v.state v.state.set (v.state.wants.asked ++ ids)) (getdata_of ids))
    → IsStep (want_turn v.state es) v new (Ok tt)
asks_more v new es ids none is role room e =
    let t = turn_accepter v.state es ids is role room in
    taken (want_turn v.state es) v new (e ∙ sym (ap (after_turn v) t)) (ap (λ (t : Turn). t.state.ended) t ∙ none)

-- what an accepter asks for may be sent
pub asks-sendable : (s : NodeState) (es : List InvEntry) → IsNode s → is_after_handshake s.machine.phase ≡ true → IsMessage (message.Inv es)
    → s.config.role ≡ role.Accepter → nat_le (taken_room s + length (unknown_ids s es)) POOL_LIMIT ≡ true → AllByRecursion IsMessage (getdata_of (unknown_ids s es))
unfolding in_relay inv_by
asks-sendable s es h past sound role room =
    subst (λ (t : Turn). AllByRecursion IsMessage t.out)
    (ap (λ b. inv_by b s.config.role s (without_announced s.set es) (unknown_ids s es)) (some_room (taken_room s + length (unknown_ids s es)) room)
    ∙ ap (λ r. inv_by false r s (without_announced s.set es) (unknown_ids s es)) role)
    (relayed-sendable s (message.Inv es) h sound past)

-- ---- without the announced ids

module _ (s : NodeState) (set : List Member) (none : s.ended ≡ None) where
  same_refusal : (full : Bool) (r : Role) (ids : List Hash32) (e : End) → inv_by full r s s.set ids ≡ refusal s e → inv_by full r s set ids ≡ refusal s e
  unfolding inv_by
  same_refusal true r ids e h = h
  same_refusal false role.Opener ids e h = absurd (let apart : None ≡ Some e = sym none ∙ ap (λ (t : Turn). t.state.ended) h in cc)
  same_refusal false role.Accepter ids e h = absurd (let apart : None ≡ Some e = sym none ∙ ap (λ (t : Turn). t.state.ended) h in cc)

pub inv_stopped : (v new : NodeView) (es : List InvEntry) (e : Stop) → v.state.ended ≡ None → IsStep (want_turn v.state es) v new (Err e) → IsStep (on_inv v.state es) v new (Err e)
unfolding IsStep
inv_stopped v new es (stop.Ended e) none h =
    (h.0, same_refusal v.state (without_announced v.state.set es) none (nat_lt POOL_LIMIT (taken_room v.state + length (unknown_ids v.state es))) v.state.config.role (unknown_ids v.state es) e h.1)
inv_stopped v new es stop.OutOfMemory none h = h

abbrev pub with_set : NodeView → List Member → NodeView
with_set v set = record v { state = record v.state { set = set } }

module _ (v w : NodeView) (es : List InvEntry) where
  taken_out : (full : Bool) (r : Role) (ids : List Hash32) → w ≡ after_turn v (inv_by full r v.state v.state.set ids) → (inv_by full r v.state v.state.set ids).state.ended ≡ None
      → with_set w (without_announced w.state.set es) ≡ after_turn v (inv_by full r v.state (without_announced v.state.set es) ids)
  unfolding inv_by
  taken_out true r ids e open_ = absurd (let apart : Some end.PoolFull ≡ None = open_ in cc)
  taken_out false role.Opener ids e open_ = ap (λ u. with_set u (without_announced u.state.set es)) e
  taken_out false role.Accepter ids e open_ = ap (λ u. with_set u (without_announced u.state.set es)) e

  still_unended : (full : Bool) (r : Role) (ids : List Hash32) → (inv_by full r v.state v.state.set ids).state.ended ≡ None → (inv_by full r v.state (without_announced v.state.set es) ids).state.ended ≡ None
  unfolding inv_by
  still_unended true r ids h = h
  still_unended false role.Opener ids h = h
  still_unended false role.Accepter ids h = h

  pub inv_taken : (set : List Member) → IsStep (want_turn v.state es) v w (Ok tt) → set ≡ without_announced w.state.set es → IsStep (on_inv v.state es) v (with_set w set) (Ok tt)
  unfolding IsStep
  inv_taken set h is =
      let full : Bool = nat_lt POOL_LIMIT (taken_room v.state + length (unknown_ids v.state es)) in
      (ap (with_set w) is ∙ taken_out full v.state.config.role (unknown_ids v.state es) h.0 h.1, still_unended full v.state.config.role (unknown_ids v.state es) h.1)
