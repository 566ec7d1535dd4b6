-- A message that is not about rounds leaves the round as it is.
use Rattle.std.proofs.Common.{◌≡◌, ℕ, ◌+◌, ◌==◌, nat_lt, int_lt, pos, is_some, length, Bool, true, false, List, [], ◌∷◌, ◌++◌, not, ◌&&◌, Option, Some, None, refl, ap, ap₂, ◌∙◌, sym}
use Rattle.std.proofs.lemmas.List.Elements.{filter-append}
use Rattle.base_types.specs.declared.lists.Hash32.{Hash32}
use Rattle.wire_rules.specs.Commands.{name_of}
use Rattle.wire_rules.specs.declared.message.InvEntry.{InvEntry}
use Rattle.wire_rules.specs.declared.message.Message.{Message}
use Rattle.wire_rules.specs.declared.message.Message.TheVariants as message
use Rattle.wire_rules.specs.declared.message.VersionMsg.{VersionMsg}
use Rattle.wire_rules.specs.declared.name.Name.{Name}
use Rattle.wire_rules.specs.declared.phase.Phase.{Phase}
use Rattle.wire_rules.specs.declared.phase.Phase.TheVariants as phase
use Rattle.pool_rules.specs.Pools.{Transaction, transaction_of, is_listed, is_in_pool, has_byte_room, without_id, bytes_of_id, pool_ids}
use Rattle.pool_rules.specs.Snapshots.{Member}
use Rattle.pool_rules.specs.declared.limits.TheConstants.{POOL_LIMIT}
use Rattle.node_rules.specs.Additions.{after_addition_by, with_pooled, on_addition_by, on_addition, is_full}
use Rattle.node_rules.specs.Handshake.{reply, version_by, on_unexpected, in_greeting, offer_by, verack_by, in_greeted, has_no_relay}
use Rattle.node_rules.specs.Inventory.{Serving, unknown_ids, without_announced, inv_by, transaction_by, on_transaction, serving_after, serving_after_entry, serving_by, serving_of, is_tx_entry}
use Rattle.node_rules.specs.Barrier.{phase_after_fetch}
use Rattle.node_rules.specs.Stages.{is_after_handshake}
use Rattle.node_rules.specs.State.{NodeState, Offer, taken_room, open_wants}
use Rattle.node_rules.specs.Steps.{in_relay, in_phase, on_message}
use Rattle.node_rules.specs.Turns.{Turn, inv_of, getdata_of, notfound_of}
use Rattle.node_rules.specs.declared.config.Config.{Config}
use Rattle.node_rules.specs.declared.config.Role.{Role}
use Rattle.node_rules.specs.declared.config.Role.TheVariants as role
use Rattle.pair_invariant_rules.specs.Handshake.{Met, Past, stage_of}
use Rattle.pair_invariant_rules.specs.Topics.{topic_of, is_round, messages_of_rounds}

-- a phase that a message that isn't about rounds may end, and what it may lead to
unfoldable pub loose : Phase → Bool
loose phase.Greeting = true
loose phase.Greeted = true
loose phase.Fetching = true
loose _ = false

unfoldable pub lands : Phase → Bool
lands phase.Greeted = true
lands phase.Idle = true
lands _ = false

pub data PhaseStep (p q : Phase) : Type 0 where
  Same : q ≡ p → PhaseStep p q
  Onwards : loose p ≡ true → lands q ≡ true → PhaseStep p q

met_not_past : (p : Phase) → p ≡ phase.Greeted → stage_of p ≡ Past → ⊥
unfolding stage_of
met_not_past p e h = let apart : Met ≡ Past = ap stage_of (sym e) ∙ h in cc

pub record Idles (s : NodeState) (t : Turn) : Type 0 where
  pub config : t.state.config ≡ s.config
  pub round : t.state.machine.round ≡ s.machine.round
  pub begun : t.state.requests.begun ≡ s.requests.begun
  pub reports : t.state.machine.reports ≡ s.machine.reports
  pub level : stage_of s.machine.phase ≡ Past → t.state.machine.level ≡ s.machine.level
  pub phase : PhaseStep s.machine.phase t.state.machine.phase
  pub out : messages_of_rounds t.out ≡ []

-- ---- what is sent

pub about_append : (xs ys : List Message) → messages_of_rounds (xs ++ ys) ≡ messages_of_rounds xs ++ messages_of_rounds ys
about_append xs ys = filter-append (λ m. is_round (topic_of m)) xs ys

pub about_none : (xs ys : List Message) → messages_of_rounds xs ≡ [] → messages_of_rounds ys ≡ [] → messages_of_rounds (xs ++ ys) ≡ []
about_none xs ys e h = about_append xs ys ∙ ap₂ (λ u v. u ++ v) e h

pub about_inv : (ids : List Hash32) → messages_of_rounds (inv_of ids) ≡ []
unfolding topic_of is_round
about_inv [] = refl
about_inv (id ∷ ids) = refl

pub about_getdata : (ids : List Hash32) → messages_of_rounds (getdata_of ids) ≡ []
unfolding topic_of is_round
about_getdata [] = refl
about_getdata (id ∷ ids) = refl

about_notfound : (es : List InvEntry) → messages_of_rounds (notfound_of es) ≡ []
unfolding topic_of is_round
about_notfound [] = refl
about_notfound (e ∷ es) = refl

about_reply : (r : Role) (c : Config) → messages_of_rounds (reply r c) ≡ []
unfolding topic_of is_round reply
about_reply role.Opener c = refl
about_reply role.Accepter c = refl

about_served : (may : Bool) (tx : Option (List ℕ)) (e : InvEntry) (v : Serving) → messages_of_rounds v.sent ≡ [] → messages_of_rounds (serving_by may tx e v).sent ≡ []
unfolding serving_by topic_of is_round
about_served true (Some tx) e v h = about_none v.sent (message.Tx tx ∷ []) h refl
about_served true None e v h = h
about_served false tx e v h = h

about_serves : (pool : List Transaction) (v : Serving) (es : List InvEntry) → messages_of_rounds v.sent ≡ [] → messages_of_rounds (serving_after pool v es).sent ≡ []
unfolding serving_after
about_serves pool v [] h = h
about_serves pool v (e ∷ es) h =
    about_serves pool (serving_after_entry pool v e) es (about_served (is_tx_entry e && not (is_listed v.served e.id)) (bytes_of_id pool e.id) e v h)

-- ---- the rows

module _ (s : NodeState) where
  abbrev same : PhaseStep s.machine.phase s.machine.phase
  same = Same refl

  out_of_place-idles : (n : Option Name) → Idles s (on_unexpected s n)
  out_of_place-idles (Some n) = record { config = refl; round = refl; begun = refl; reports = refl; level = λ past. refl; phase = same; out = refl }
  out_of_place-idles None = record { config = refl; round = refl; begun = refl; reports = refl; level = λ past. refl; phase = same; out = refl }

  version_by-idles : (old silent : Bool) (v : VersionMsg) → s.machine.phase ≡ phase.Greeting → Idles s (version_by old silent s v)
  unfolding version_by loose lands
  version_by-idles true silent v e = record { config = refl; round = refl; begun = refl; reports = refl; level = λ past. refl; phase = same; out = refl }
  version_by-idles false true v e = record { config = refl; round = refl; begun = refl; reports = refl; level = λ past. refl; phase = same; out = refl }
  version_by-idles false false v e = record { config = refl; round = refl; begun = refl; reports = refl; level = λ past. refl; phase = Onwards (ap loose e) refl; out = about_reply s.config.role s.config }

  pub in_greeting-idles : (m : Message) → s.machine.phase ≡ phase.Greeting → Idles s (in_greeting s m)
  unfolding in_greeting
  in_greeting-idles (message.Version v) e = version_by-idles (int_lt v.version (pos 70016)) (has_no_relay v.relay) v e
  in_greeting-idles (message.Ping n) e = record { config = refl; round = refl; begun = refl; reports = refl; level = λ past. refl; phase = same; out = refl }
  in_greeting-idles (message.Pong n) e = record { config = refl; round = refl; begun = refl; reports = refl; level = λ past. refl; phase = same; out = refl }
  in_greeting-idles other e = out_of_place-idles (name_of other)

  offer_by-idles : (zero again : Bool) (offer : Offer) → Idles s (offer_by zero again s offer)
  unfolding offer_by
  offer_by-idles true again offer = record { config = refl; round = refl; begun = refl; reports = refl; level = λ past. refl; phase = same; out = refl }
  offer_by-idles false true offer = record { config = refl; round = refl; begun = refl; reports = refl; level = λ past. refl; phase = same; out = refl }
  offer_by-idles false false offer = record { config = refl; round = refl; begun = refl; reports = refl; level = λ past. refl; phase = same; out = refl }

  verack_by-idles : (noted : Bool) (offer : Option Offer) → s.machine.phase ≡ phase.Greeted → Idles s (verack_by noted offer s)
  unfolding verack_by loose lands
  verack_by-idles false offer e = record { config = refl; round = refl; begun = refl; reports = refl; level = λ past. refl; phase = same; out = refl }
  verack_by-idles true None e = record { config = refl; round = refl; begun = refl; reports = refl; level = λ past. absurd (met_not_past s.machine.phase e past); phase = Onwards (ap loose e) refl; out = about_inv (pool_ids s.pool) }
  verack_by-idles true (Some offer) e = record { config = refl; round = refl; begun = refl; reports = refl; level = λ past. absurd (met_not_past s.machine.phase e past); phase = Onwards (ap loose e) refl; out = refl }

  pub in_greeted-idles : (m : Message) → s.machine.phase ≡ phase.Greeted → Idles s (in_greeted s m)
  unfolding in_greeted
  in_greeted-idles message.WtxidRelay e = record { config = refl; round = refl; begun = refl; reports = refl; level = λ past. refl; phase = same; out = refl }
  in_greeted-idles (message.SendTxRcncl version salt) e = offer_by-idles (version == 0) (is_some s.peer.offer) (record { version = version; salt = salt })
  in_greeted-idles message.Verack e = verack_by-idles s.peer.relays_by_id s.peer.offer e
  in_greeted-idles (message.Ping n) e = record { config = refl; round = refl; begun = refl; reports = refl; level = λ past. refl; phase = same; out = refl }
  in_greeted-idles (message.Pong n) e = record { config = refl; round = refl; begun = refl; reports = refl; level = λ past. refl; phase = same; out = refl }
  in_greeted-idles other e = out_of_place-idles (name_of other)

  inv_by-idles : (full : Bool) (r : Role) (set : List Member) (ids : List Hash32) → Idles s (inv_by full r s set ids)
  unfolding inv_by
  inv_by-idles true r set ids = record { config = refl; round = refl; begun = refl; reports = refl; level = λ past. refl; phase = same; out = refl }
  inv_by-idles false role.Opener set ids = record { config = refl; round = refl; begun = refl; reports = refl; level = λ past. refl; phase = same; out = refl }
  inv_by-idles false role.Accepter set ids = record { config = refl; round = refl; begun = refl; reports = refl; level = λ past. refl; phase = same; out = about_getdata ids }

  settled_step : (ids : List Hash32) (p : Phase) → PhaseStep p (phase_after_fetch ids p)
  unfolding phase_after_fetch loose lands
  settled_step [] phase.Fetching = Onwards refl refl
  settled_step ids other = Same refl

  came-idles : (asked with_pooled fits : Bool) (t : Transaction) → Idles s (transaction_by asked with_pooled fits s t)
  unfolding transaction_by
  came-idles false with_pooled fits t = record { config = refl; round = refl; begun = refl; reports = refl; level = λ past. refl; phase = same; out = refl }
  came-idles true true fits t = record { config = refl; round = refl; begun = refl; reports = refl; level = λ past. refl; phase = settled_step (without_id s.wants.asked t.id) s.machine.phase; out = refl }
  came-idles true false false t = record { config = refl; round = refl; begun = refl; reports = refl; level = λ past. refl; phase = same; out = refl }
  came-idles true false true t = record { config = refl; round = refl; begun = refl; reports = refl; level = λ past. refl; phase = settled_step (without_id s.wants.asked t.id) s.machine.phase; out = refl }

  on_held-idles : (t : Transaction) → Idles s (on_transaction s t)
  on_held-idles t = came-idles (is_listed s.wants.asked t.id) (is_in_pool s.pool t.id) (has_byte_room s.pool t.bytes) t

  pub relays-idles : (m : Message) → is_round (topic_of m) ≡ false → Idles s (in_relay s m)
  unfolding in_relay topic_of is_round
  relays-idles (message.Version v) off = record { config = refl; round = refl; begun = refl; reports = refl; level = λ past. refl; phase = same; out = refl }
  relays-idles message.Verack off = record { config = refl; round = refl; begun = refl; reports = refl; level = λ past. refl; phase = same; out = refl }
  relays-idles message.WtxidRelay off = record { config = refl; round = refl; begun = refl; reports = refl; level = λ past. refl; phase = same; out = refl }
  relays-idles (message.SendTxRcncl version salt) off = record { config = refl; round = refl; begun = refl; reports = refl; level = λ past. refl; phase = same; out = refl }
  relays-idles (message.ReqRecon size q) off = absurd (cc)
  relays-idles (message.Sketch bytes) off = absurd (cc)
  relays-idles message.ReqSketchExt off = absurd (cc)
  relays-idles (message.ReconcilDiff success asks) off = absurd (cc)
  relays-idles (message.Inv es) off = inv_by-idles (nat_lt POOL_LIMIT (taken_room s + length (unknown_ids s es))) s.config.role (without_announced s.set es) (unknown_ids s es)
  relays-idles (message.GetData es) off = record {
    config = refl;
    round = refl;
    begun = refl;
    reports = refl;
    level = λ past. refl;
    phase = same;
    out = about_none (serving_of s es).sent (notfound_of (serving_of s es).missing) (about_serves s.pool (record { served = s.wants.served; sent = []; missing = [] }) es refl) (about_notfound (serving_of s es).missing);
  }
  relays-idles (message.NotFound es) off = record { config = refl; round = refl; begun = refl; reports = refl; level = λ past. refl; phase = settled_step _ s.machine.phase; out = refl }
  relays-idles (message.Tx tx) off = on_held-idles (transaction_of tx)
  relays-idles (message.Ping n) off = absurd (cc)
  relays-idles (message.Pong n) off = absurd (cc)
  relays-idles (message.Other command payload) off = record { config = refl; round = refl; begun = refl; reports = refl; level = λ past. refl; phase = same; out = refl }

  in_its_phase-idles : (p : Phase) (m : Message) → s.machine.phase ≡ p → is_round (topic_of m) ≡ false → Idles s (in_phase p s m)
  unfolding in_phase
  in_its_phase-idles phase.Greeting m e off = in_greeting-idles m e
  in_its_phase-idles phase.Greeted m e off = in_greeted-idles m e
  in_its_phase-idles other m e off = relays-idles m off

  pub takes-idles : (m : Message) → is_round (topic_of m) ≡ false → Idles s (on_message s m)
  takes-idles m off = in_its_phase-idles s.machine.phase m refl off

  -- ---- an addition

  told_by-idles : (open_want past plain : Bool) (id : Hash32) → Idles s (after_addition_by open_want past plain s id)
  unfolding after_addition_by
  told_by-idles true past plain id = record { config = refl; round = refl; begun = refl; reports = refl; level = λ past. refl; phase = same; out = refl }
  told_by-idles false false plain id = record { config = refl; round = refl; begun = refl; reports = refl; level = λ past. refl; phase = same; out = refl }
  told_by-idles false true true id = record { config = refl; round = refl; begun = refl; reports = refl; level = λ past. refl; phase = same; out = about_inv (id ∷ []) }
  told_by-idles false true false id = record { config = refl; round = refl; begun = refl; reports = refl; level = λ past. refl; phase = same; out = refl }

added_by-idles : (ended present full : Bool) (s : NodeState) (t : Transaction) → Idles s (on_addition_by ended present full s t).turn
unfolding on_addition_by
added_by-idles true present full s t = record { config = refl; round = refl; begun = refl; reports = refl; level = λ past. refl; phase = Same refl; out = refl }
added_by-idles false true full s t = record { config = refl; round = refl; begun = refl; reports = refl; level = λ past. refl; phase = Same refl; out = refl }
added_by-idles false false true s t = record { config = refl; round = refl; begun = refl; reports = refl; level = λ past. refl; phase = Same refl; out = refl }
added_by-idles false false false s t =
    let told = told_by-idles (with_pooled s t) (is_listed (open_wants s) t.id) (is_after_handshake s.machine.phase) s.plain t.id in
    record { config = told.config; round = told.round; begun = told.begun; reports = told.reports; level = told.level; phase = told.phase; out = told.out }

pub adds-idles : (s : NodeState) (tx : List ℕ) → Idles s (on_addition s tx).turn
adds-idles s tx = added_by-idles (is_some s.ended) (is_in_pool s.pool (transaction_of tx).id) (is_full s (transaction_of tx)) s (transaction_of tx)
