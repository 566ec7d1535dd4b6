-- The handshake at a conversation.
use Rattle.std.proofs.Common.{◌≡◌, ℕ, ◌==◌, ◌≤◌, Bool, true, false, List, [], ◌++◌, Option, Some, None, Result, Ok, is_some, is_none, option_map, int_lt, pos, negsuc, ℤ, ◌^◌, w32, length, append-nil, arith, refl, sym, ap, subst, ◌∙◌}
use Rattle.std.specs.List.{AllByRecursion}
use Rattle.std.proofs.lemmas.Bool.{ltb-true}
use Rattle.std.proofs.lemmas.Int.{to_z-of_z}
use mir.Val.{of_z, to_z}
use Rattle.id_rules.specs.Bytes.{fits_signed}
use Rattle.id_rules.specs.Ids.{keys_of}
use Rattle.wire_laws.proofs.Parts.{version_ranges}
use Rattle.wire_rules.specs.Commands.{name_of}
use Rattle.wire_rules.specs.Layout.{wire_bytes}
use Rattle.wire_rules.specs.Limits.{IsMessage, is_in_range, is_within_limits}
use Rattle.wire_rules.specs.declared.message.VersionMsg.{VersionMsg}
use Rattle.wire_rules.specs.declared.message.Message.{Message}
use Rattle.wire_rules.specs.declared.message.Message.TheVariants as message
use Rattle.wire_rules.specs.declared.name.Name.TheVariants as name
use Rattle.wire_rules.specs.declared.phase.Phase.TheVariants as phase
use Rattle.pool_rules.specs.Pools.{AreDistinctIds, IsPool, pool_ids}
use Rattle.pool_rules.specs.declared.limits.TheConstants.{POOL_LIMIT}
use Rattle.std.proofs.lemmas.List.{length-map}
use Rattle.invariant_laws.proofs.Early.{greeted-early}
use Rattle.invariant_laws.proofs.Sending.{on_message-sendable}
use Rattle.conversation.proofs.Taking.{greeted_is, greeted_verack}
use Rattle.pool_rules.specs.Snapshots.{Member, members}
use Rattle.node_rules.specs.Handshake.{has_no_relay, version_by, on_version, reply, offer_by, on_sendtxrcncl, verack_by, on_verack, level_of, after_handshake, greeted_state, in_greeting, in_greeted, on_unexpected, on_wtxidrelay}
use Rattle.node_rules.specs.Invariant.{IsNode, IsConfig, IsOffer}
use Rattle.node_rules.specs.State.{NodeState, NodeView, Machine, Requests, Offer, first_requests}
use Rattle.node_rules.specs.Turns.{Turn, turn_with, unchanged, refusal, after_turn, inv_of}
use Rattle.node_rules.specs.declared.config.Config.{Config}
use Rattle.node_rules.specs.declared.config.Role.{Role}
use Rattle.node_rules.specs.declared.end.End.TheVariants as end
use Rattle.outbox.specs.Waiting.{Waiting, with_messages}
use Rattle.responder.specs.Machines.{idle_machine}
use Rattle.conversation.specs.Handled.{IsStep}
use Rattle.conversation.specs.Views.{IsStageOf, machine_at, requests_at, is_plain_at, peer_of, state_of, view_of, offer_of}
use Rattle.conversation.specs.declared.peer as declared
use Rattle.conversation.specs.declared.stage.Stage.{Stage}
use Rattle.conversation.specs.declared.stage.Stage.TheVariants as stage
use Rattle.conversation.specs.declared.stop.Stop.{Stop}
use Rattle.conversation.proofs.Stages.{greeting_stage, greeted_stage}
use Rattle.conversation.proofs.Steps.{taken}
use Rattle.conversation.proofs.Views.{Parts, state_at, view_at}

-- nothing was written
pub back : (x : Parts) (v : NodeView) (t : Turn) (told : Result Unit Stop) → view_at x ≡ v → IsStep t v v told → IsStep t v (view_at x) told
back x v t told view is = subst (λ y. IsStep t v y told) (sym view) is

-- ---- the peer's version

same_32 : (z : ℤ) → fits_signed 31 z ≡ true → to_z w32 (of_z w32 z) ≡ z
same_32 (pos k) h = to_z-of_z w32 (pos k) (record { sfits = ltb-true k (2 ^ 31) h })
same_32 (negsuc k) h = to_z-of_z w32 (negsuc k) (record { sfits = ltb-true k (2 ^ 31) h })

pub version_same : (m : VersionMsg) → IsMessage (message.Version m) → to_z w32 (of_z w32 m.version) ≡ m.version
unfolding is_in_range
version_same m sound = same_32 m.version (version_ranges m sound.ranged).version

pub old_version : (s : NodeState) (m : VersionMsg) → int_lt m.version (pos 70016) ≡ true → on_version s m ≡ refusal s (end.OldPeer m.version)
unfolding version_by
old_version s m e = subst (λ b. version_by b (has_no_relay m.relay) s m ≡ refusal s (end.OldPeer m.version)) (sym e) refl

pub silent_version : (s : NodeState) (m : VersionMsg) → int_lt m.version (pos 70016) ≡ false → has_no_relay m.relay ≡ true → on_version s m ≡ refusal s end.PeerNoRelay
unfolding version_by
silent_version s m e f = subst (λ b. version_by b (has_no_relay m.relay) s m ≡ refusal s end.PeerNoRelay) (sym e) (subst (λ b. version_by false b s m ≡ refusal s end.PeerNoRelay) (sym f) refl)

pub greeted_version : (s : NodeState) (m : VersionMsg) → int_lt m.version (pos 70016) ≡ false → has_no_relay m.relay ≡ false → on_version s m ≡ turn_with (greeted_state s) (reply s.config.role s.config)
unfolding version_by
greeted_version s m e f =
    subst (λ b. version_by b (has_no_relay m.relay) s m ≡ turn_with (greeted_state s) (reply s.config.role s.config)) (sym e)
    (subst (λ b. version_by false b s m ≡ turn_with (greeted_state s) (reply s.config.role s.config)) (sym f) refl)

module _ (x : Parts) (v : NodeView) (view : view_at x ≡ v) where
  pub version_taken : (m : VersionMsg) (out : Waiting) → IsStageOf x.config.role x.stage → x.outbox.magic ≡ x.config.magic → v.state.machine.phase ≡ phase.Greeting → int_lt m.version (pos 70016) ≡ false → has_no_relay m.relay ≡ false
      → out ≡ with_messages x.outbox (reply x.config.role x.config) → IsStep (on_version v.state m) v (view_at (record x { stage = stage.Greeted; outbox = out })) (Ok tt)
  version_taken m out is magic before young speaks sent =
      let at = greeting_stage x.config.role x.stage is (ap (λ (v : NodeView). v.state.machine.phase) view ∙ before) in
      let greeting : Stage → NodeView =
      λ s. view_of (greeted_state (state_of x.config s x.set x.store (peer_of x.peer))) (x.outbox.bytes ++ wire_bytes x.config.magic (reply x.config.role x.config)) in
      subst (λ (v : NodeView). on_version v.state m ≡ turn_with (greeted_state v.state) (reply v.state.config.role v.state.config) → IsStep (on_version v.state m) v (view_at (record x { stage = stage.Greeted; outbox = out })) (Ok tt)) view
      (λ step.
      taken (view_at x) (view_at (record x { stage = stage.Greeted; outbox = out })) (on_version (state_at x) m) (ap (λ (t : Turn). t.state.ended) step)
      (ap (λ (o : Waiting). view_at (record x { stage = stage.Greeted; outbox = o })) (sent ∙ ap (λ k. record x.outbox { bytes = x.outbox.bytes ++ wire_bytes k (reply x.config.role x.config) }) magic)
      ∙ sym (ap greeting at) ∙ sym (ap (after_turn (view_at x)) step)))
      (greeted_version v.state m young speaks)

-- ---- that it relays by wtxid

pub relay_taken : (x : Parts) (v : NodeView) → view_at x ≡ v → IsStep (on_wtxidrelay v.state) v (view_at (record x { peer = record x.peer { relays_by_id = true } })) (Ok tt)
relay_taken x v view =
    let later = view_at (record x { peer = record x.peer { relays_by_id = true } }) in
    subst (λ (v : NodeView). IsStep (on_wtxidrelay v.state) v later (Ok tt)) view
    (taken (view_at x) later (on_wtxidrelay (state_at x)) refl (sym (ap (view_of (record (state_at x) { peer = record (peer_of x.peer) { relays_by_id = true } })) (append-nil x.outbox.bytes))))

-- ---- the peer's offer

pub zero_offer : (s : NodeState) (o : Offer) → (o.version == 0) ≡ true → on_sendtxrcncl s o ≡ refusal s end.ZeroReconVersion
unfolding offer_by
zero_offer s o e = subst (λ b. offer_by b (is_some s.peer.offer) s o ≡ refusal s end.ZeroReconVersion) (sym e) refl

pub second_offer : (s : NodeState) (o : Offer) → (o.version == 0) ≡ false → is_some s.peer.offer ≡ true → on_sendtxrcncl s o ≡ refusal s (end.Handshake name.SendTxRcncl)
unfolding offer_by
second_offer s o e f = subst (λ b. offer_by b (is_some s.peer.offer) s o ≡ refusal s (end.Handshake name.SendTxRcncl)) (sym e) (subst (λ b. offer_by false b s o ≡ refusal s (end.Handshake name.SendTxRcncl)) (sym f) refl)

pub first_offer : (s : NodeState) (o : Offer) → (o.version == 0) ≡ false → is_some s.peer.offer ≡ false → on_sendtxrcncl s o ≡ unchanged (record s { peer = record s.peer { offer = Some o } })
unfolding offer_by
first_offer s o e f = subst (λ b. offer_by b (is_some s.peer.offer) s o ≡ unchanged (record s { peer = record s.peer { offer = Some o } })) (sym e) (subst (λ b. offer_by false b s o ≡ unchanged (record s { peer = record s.peer { offer = Some o } })) (sym f) refl)

offer_same : (o : Option declared.Offer.Offer) → is_some (option_map offer_of o) ≡ is_some o
offer_same None = refl
offer_same (Some o) = refl

plain_same : (r : Role) (at : Stage) → IsStageOf r at → (machine_at at).phase ≡ phase.Greeted → (o p : Option Offer) → is_plain_at at o ≡ is_plain_at at p
plain_same r at is e o p = let greeted = greeted_stage r at is e in ap (λ s. is_plain_at s o) greeted ∙ sym (ap (λ s. is_plain_at s p) greeted)

module _ (x : Parts) (v : NodeView) (view : view_at x ≡ v) where
  pub offered : is_some v.state.peer.offer ≡ is_some x.peer.offer
  offered = ap (λ (v : NodeView). is_some v.state.peer.offer) (sym view) ∙ offer_same x.peer.offer

  pub offer_taken : (o : declared.Offer.Offer) → (o.version == 0) ≡ false → is_some x.peer.offer ≡ false → IsStageOf x.config.role x.stage → v.state.machine.phase ≡ phase.Greeted
      → IsStep (on_sendtxrcncl v.state (offer_of o)) v (view_at (record x { peer = record x.peer { offer = Some o } })) (Ok tt)
  offer_taken o some none is before =
      let plain = plain_same x.config.role x.stage is (ap (λ (v : NodeView). v.state.machine.phase) view ∙ before) (Some (offer_of o)) (peer_of x.peer).offer in
      let later = view_at (record x { peer = record x.peer { offer = Some o } }) in
      subst (λ (v : NodeView). on_sendtxrcncl v.state (offer_of o) ≡ unchanged (record v.state { peer = record v.state.peer { offer = Some (offer_of o) } }) → IsStep (on_sendtxrcncl v.state (offer_of o)) v later (Ok tt)) view
      (λ step.
      taken (view_at x) later (on_sendtxrcncl (state_at x) (offer_of o)) (ap (λ (t : Turn). t.state.ended) step)
      (ap (λ p. record later { state = record later.state { plain = p } }) plain
      ∙ sym (ap (view_of (record (state_at x) { peer = record (peer_of x.peer) { offer = Some (offer_of o) } })) (append-nil x.outbox.bytes)) ∙ sym (ap (after_turn (view_at x)) step)))
      (first_offer v.state (offer_of o) some (offered ∙ none))

-- ---- the end of the handshake

pub unrelayed : (s : NodeState) → s.peer.relays_by_id ≡ false → on_verack s ≡ refusal s end.NoWtxidRelay
unfolding verack_by
unrelayed s e = subst (λ b. verack_by b s.peer.offer s ≡ refusal s end.NoWtxidRelay) (sym e) refl

pub plain_verack : (s : NodeState) → s.peer.relays_by_id ≡ true → s.peer.offer ≡ None → on_verack s ≡ turn_with (after_handshake s (level_of s.config.top None) true []) (inv_of (pool_ids s.pool))
unfolding verack_by
plain_verack s e f =
    subst (λ b. verack_by b s.peer.offer s ≡ turn_with (after_handshake s (level_of s.config.top None) true []) (inv_of (pool_ids s.pool))) (sym e)
    (subst (λ o. verack_by true o s ≡ turn_with (after_handshake s (level_of s.config.top None) true []) (inv_of (pool_ids s.pool))) (sym f) refl)

pub whole_verack : (s : NodeState) (o : Offer) → s.peer.relays_by_id ≡ true → s.peer.offer ≡ Some o
    → on_verack s ≡ unchanged (after_handshake s (level_of s.config.top (Some o)) false (members (keys_of s.config.salt o.salt) (pool_ids s.pool)))
unfolding verack_by
whole_verack s o e f =
    subst (λ b. verack_by b s.peer.offer s ≡ unchanged (after_handshake s (level_of s.config.top (Some o)) false (members (keys_of s.config.salt o.salt) (pool_ids s.pool)))) (sym e)
    (subst (λ p. verack_by true p s ≡ unchanged (after_handshake s (level_of s.config.top (Some o)) false (members (keys_of s.config.salt o.salt) (pool_ids s.pool)))) (sym f) refl)

-- the level is 1 or 2
pub level_within : (top : ℕ) (o : Option Offer) → 1 ≤ top → top ≤ 2 → ((x : Offer) → o ≡ Some x → IsOffer x) → (1 ≤ level_of top o) × (level_of top o ≤ 2)
unfolding level_of
level_within top None least most sound = (omega arith, omega arith)
level_within top (Some o) least most sound = let some = (sound o refl).least in (omega arith, omega arith)

-- what a machine of the role is before its first round
pub record IsIdleStage (config : Config) (level : ℕ) (at : Stage) : Type 0 where
  pub machine : machine_at at ≡ idle_machine level []
  pub requests : requests_at at ≡ first_requests
  pub plain : (o : Option Offer) → is_plain_at at o ≡ is_none o

-- the handshake is over
module _ (x : Parts) (v : NodeView) (view : view_at x ≡ v) (is : IsStageOf x.config.role x.stage) (before : v.state.machine.phase ≡ phase.Greeted) (at : Stage) (level : ℕ) (idle : IsIdleStage x.config level at) where
  over_is : (set : List Member) (plain : Bool) → is_none (peer_of x.peer).offer ≡ plain → state_of x.config at set x.store (peer_of x.peer) ≡ after_handshake (state_at x) level plain set
  over_is set plain none =
      let greeted = greeted_stage x.config.role x.stage is (ap (λ (v : NodeView). v.state.machine.phase) view ∙ before) in
      let u : Machine → Requests → Bool → NodeState = λ m k p. record (state_of x.config stage.Greeted set x.store (peer_of x.peer)) { machine = m; requests = k; plain = p } in
      let over : Stage → NodeState = λ s. after_handshake (state_of x.config s x.set x.store (peer_of x.peer)) level plain set in
      ap (λ m. u m (requests_at at) (is_plain_at at (peer_of x.peer).offer)) idle.machine
      ∙ ap (λ k. u (idle_machine level []) k (is_plain_at at (peer_of x.peer).offer)) idle.requests
      ∙ ap (λ p. u (idle_machine level []) first_requests p) (idle.plain (peer_of x.peer).offer ∙ none)
      ∙ sym (ap over greeted)

  pub plain_taken : (out : Waiting) → x.outbox.magic ≡ x.config.magic → level ≡ level_of x.config.top None → x.set ≡ [] → v.state.peer.relays_by_id ≡ true → v.state.peer.offer ≡ None
      → out ≡ with_messages x.outbox (inv_of (pool_ids x.store.pool)) → IsStep (on_verack v.state) v (view_at (record x { stage = at; outbox = out })) (Ok tt)
  plain_taken out magic levels empty relays none sent =
      let ids = inv_of (pool_ids x.store.pool) in
      let peer : (peer_of x.peer).offer ≡ None = ap (λ (v : NodeView). v.state.peer.offer) view ∙ none in
      let state : state_of x.config at x.set x.store (peer_of x.peer) ≡ after_handshake (state_at x) (level_of x.config.top None) true [] =
      ap (λ set. state_of x.config at set x.store (peer_of x.peer)) empty ∙ over_is [] true (ap is_none peer) ∙ ap (λ n. after_handshake (state_at x) n true []) levels in
      subst (λ (v : NodeView). on_verack v.state ≡ turn_with (after_handshake v.state (level_of v.state.config.top None) true []) (inv_of (pool_ids v.state.pool)) → IsStep (on_verack v.state) v (view_at (record x { stage = at; outbox = out })) (Ok tt)) view
      (λ step.
      taken (view_at x) (view_at (record x { stage = at; outbox = out })) (on_verack (state_at x)) (ap (λ (t : Turn). t.state.ended) step)
      (ap (λ (o : Waiting). view_at (record x { stage = at; outbox = o })) (sent ∙ ap (λ k. record x.outbox { bytes = x.outbox.bytes ++ wire_bytes k ids }) magic)
      ∙ ap (λ s. view_of s (x.outbox.bytes ++ wire_bytes x.config.magic ids)) state ∙ sym (ap (after_turn (view_at x)) step)))
      (plain_verack v.state relays none)

  pub whole_taken : (o : Offer) (set : List Member) → level ≡ level_of x.config.top (Some o) → v.state.peer.relays_by_id ≡ true → v.state.peer.offer ≡ Some o
      → set ≡ members (keys_of x.config.salt o.salt) (pool_ids x.store.pool) → IsStep (on_verack v.state) v (view_at (record x { stage = at; set = set })) (Ok tt)
  whole_taken o set levels relays some made =
      let all = members (keys_of x.config.salt o.salt) (pool_ids x.store.pool) in
      let peer : (peer_of x.peer).offer ≡ Some o = ap (λ (v : NodeView). v.state.peer.offer) view ∙ some in
      let state : state_of x.config at set x.store (peer_of x.peer) ≡ after_handshake (state_at x) (level_of x.config.top (Some o)) false all =
      ap (λ set. state_of x.config at set x.store (peer_of x.peer)) made ∙ over_is all false (ap is_none peer) ∙ ap (λ n. after_handshake (state_at x) n false all) levels in
      subst (λ (v : NodeView). on_verack v.state ≡ unchanged (after_handshake v.state (level_of v.state.config.top (Some o)) false (members (keys_of v.state.config.salt o.salt) (pool_ids v.state.pool))) → IsStep (on_verack v.state) v (view_at (record x { stage = at; set = set })) (Ok tt)) view
      (λ step.
      taken (view_at x) (view_at (record x { stage = at; set = set })) (on_verack (state_at x)) (ap (λ (t : Turn). t.state.ended) step)
      (ap (λ s. view_of s x.outbox.bytes) state ∙ sym (ap (view_of (after_handshake (state_at x) (level_of x.config.top (Some o)) false all)) (append-nil x.outbox.bytes)) ∙ sym (ap (after_turn (view_at x)) step)))
      (whole_verack v.state o relays some)

-- ---- what is passed over, and what doesn't belong here

pub greeting_other : (s : NodeState) (m : Message) → ((x : VersionMsg) → m ≡ message.Version x → ⊥) → ((n : ℕ) → m ≡ message.Ping n → ⊥) → ((n : ℕ) → m ≡ message.Pong n → ⊥) → in_greeting s m ≡ on_unexpected s (name_of m)
unfolding in_greeting
greeting_other s (message.Version x) version ping pong = absurd (version x refl)
greeting_other s (message.Ping n) version ping pong = absurd (ping n refl)
greeting_other s (message.Pong n) version ping pong = absurd (pong n refl)
greeting_other s other version ping pong = refl

pub greeted_other : (s : NodeState) (m : Message) → (m ≡ message.WtxidRelay → ⊥) → ((version salt : ℕ) → m ≡ message.SendTxRcncl version salt → ⊥) → (m ≡ message.Verack → ⊥) → ((n : ℕ) → m ≡ message.Ping n → ⊥) → ((n : ℕ) → m ≡ message.Pong n → ⊥)
    → in_greeted s m ≡ on_unexpected s (name_of m)
unfolding in_greeted
greeted_other s message.WtxidRelay relay offer verack ping pong = absurd (relay refl)
greeted_other s (message.SendTxRcncl version salt) relay offer verack ping pong = absurd (offer version salt refl)
greeted_other s message.Verack relay offer verack ping pong = absurd (verack refl)
greeted_other s (message.Ping n) relay offer verack ping pong = absurd (ping n refl)
greeted_other s (message.Pong n) relay offer verack ping pong = absurd (pong n refl)
greeted_other s other relay offer verack ping pong = refl

verack_sound : IsMessage message.Verack
unfolding is_within_limits is_in_range
verack_sound = record { within = refl; ranged = refl }

-- ---- what holds before the handshake is over

pub of_config : (c d : Config) → c ≡ d → IsConfig d → IsConfig c
of_config c d e h = subst IsConfig (sym e) h

module _ (x : Parts) (v : NodeView) (view : view_at x ≡ v) (node : IsNode v.state) where
  pub pool_is : AreDistinctIds (pool_ids x.store.pool) × (length (pool_ids x.store.pool) ≤ POOL_LIMIT)
  pool_is =
      let pool : IsPool x.store.pool = subst IsPool (ap (λ (v : NodeView). v.state.pool) (sym view)) node.store.pool in
      let size = length-map x.store.pool (λ t. t.id) in
      let few = pool.count in
      (pool.distinct, omega (arith, size, few))

  pub nothing_in_set : v.state.machine.phase ≡ phase.Greeted → x.set ≡ []
  nothing_in_set before = ap (λ (v : NodeView). v.state.set) view ∙ (greeted-early v.state node.conversing before).set

  pub plain_sendable : v.state.machine.phase ≡ phase.Greeted → v.state.peer.relays_by_id ≡ true → v.state.peer.offer ≡ None → AllByRecursion IsMessage (inv_of (pool_ids x.store.pool))
  plain_sendable before relays none =
      subst (λ (v : NodeView). AllByRecursion IsMessage (inv_of (pool_ids v.state.pool))) (sym view)
      (subst (λ (t : Turn). AllByRecursion IsMessage t.out) (greeted_is v.state.machine.phase v.state message.Verack before ∙ (greeted_verack v.state message.Verack refl ∙ plain_verack v.state relays none)) (on_message-sendable v.state node message.Verack verack_sound))
