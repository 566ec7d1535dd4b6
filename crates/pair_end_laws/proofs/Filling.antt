-- A message that isn't about a round ends a node only where there is no room.
use Rattle.std.proofs.Common.{◌≡◌, ◌+◌, nat_lt, length, Bool, true, false, List, [], ◌∷◌, is_some, Option, Some, None, refl, sym, ap, subst, ◌∙◌}
use Rattle.base_types.specs.declared.lists.Hash32.{Hash32}
use Rattle.wire_rules.specs.declared.message.Message.{Message}
use Rattle.wire_rules.specs.declared.message.Message.TheVariants as message
use Rattle.wire_rules.specs.declared.phase.Phase.TheVariants as phase
use Rattle.pool_rules.specs.Pools.{Transaction, transaction_of, is_listed, is_in_pool, has_byte_room}
use Rattle.pool_rules.specs.Snapshots.{Member}
use Rattle.pool_rules.specs.declared.limits.TheConstants.{POOL_LIMIT}
use Rattle.node_rules.specs.Handshake.{own_version, own_offer, offer_message, in_greeted, offer_by, verack_by}
use Rattle.node_rules.specs.Inventory.{unknown_ids, without_announced, inv_by, transaction_by}
use Rattle.node_rules.specs.Invariant.{IsConfig}
use Rattle.node_rules.specs.State.{NodeState, Offer, Peer, taken_room}
use Rattle.node_rules.specs.Steps.{in_relay, in_phase, on_message}
use Rattle.node_rules.specs.Turns.{Turn}
use Rattle.node_rules.specs.declared.config.Config.{Config}
use Rattle.node_rules.specs.declared.config.Role.{Role}
use Rattle.node_rules.specs.declared.config.Role.TheVariants as role
use Rattle.node_rules.specs.declared.end.End.{End}
use Rattle.node_rules.specs.declared.end.End.TheVariants as end
use Rattle.pair_invariant_rules.specs.Pairs.{Pair}
use Rattle.pair_invariant_rules.specs.Topics.{topic_of, is_round, is_handshake}
use Rattle.pair_invariant_rules.specs.Handshake.{Rest, WholeRest, FromOffer, VerackAlone, NoRest, rest_messages, noted_peer, Past, stage_of, stage_by_rest, IsBehindIntroduction, IsHalfHandshake, HasHandshake, Calling, Replying, Introducing}
use Rattle.pair_invariant_laws.proofs.PlainTalk.{relays_past}
use Rattle.pair_invariant_laws.proofs.Shaking.{version_row, met_phase, some_version}

-- where the node ends in the step, it has no room
abbrev pub Fills : Turn → Type 0
Fills t = (e : End) → t.state.ended ≡ Some e → e ≡ end.PoolFull

pub goes_fills : (t : Turn) → t.state.ended ≡ None → Fills t
goes_fills t going e h = absurd (let apart : None ≡ Some e = sym going ∙ h in cc)

module _ (s : NodeState) (going : s.ended ≡ None) where
  full_fills : (t : Turn) → t.state.ended ≡ Some end.PoolFull → Fills t
  full_fills t full e h = let same : Some end.PoolFull ≡ Some e = sym full ∙ h in cc

  inv_by-fills : (full : Bool) (r : Role) (set : List Member) (ids : List Hash32) → Fills (inv_by full r s set ids)
  unfolding inv_by
  inv_by-fills true r set ids = full_fills (inv_by true r s set ids) refl
  inv_by-fills false role.Opener set ids = goes_fills (inv_by false role.Opener s set ids) going
  inv_by-fills false role.Accepter set ids = goes_fills (inv_by false role.Accepter s set ids) going

  transaction_by-fills : (asked pooled fits : Bool) (t : Transaction) → Fills (transaction_by asked pooled fits s t)
  unfolding transaction_by
  transaction_by-fills false pooled fits t = goes_fills (transaction_by false pooled fits s t) going
  transaction_by-fills true true fits t = goes_fills (transaction_by true true fits s t) going
  transaction_by-fills true false false t = full_fills (transaction_by true false false s t) refl
  transaction_by-fills true false true t = goes_fills (transaction_by true false true s t) going

  relays-fills : (m : Message) → is_round (topic_of m) ≡ false → is_handshake (topic_of m) ≡ false → Fills (in_relay s m)
  unfolding in_relay topic_of is_round is_handshake
  relays-fills (message.Inv es) off talk = inv_by-fills (nat_lt POOL_LIMIT (taken_room s + length (unknown_ids s es))) s.config.role (without_announced s.set es) (unknown_ids s es)
  relays-fills (message.GetData es) off talk = goes_fills (in_relay s (message.GetData es)) going
  relays-fills (message.NotFound es) off talk = goes_fills (in_relay s (message.NotFound es)) going
  relays-fills (message.Tx tx) off talk = transaction_by-fills (is_listed s.wants.asked (transaction_of tx).id) (is_in_pool s.pool (transaction_of tx).id) (has_byte_room s.pool (transaction_of tx).bytes) (transaction_of tx)
  relays-fills (message.Other command payload) off talk = goes_fills (in_relay s (message.Other command payload)) going
  relays-fills (message.Version v) off talk = absurd (cc)
  relays-fills message.Verack off talk = absurd (cc)
  relays-fills message.WtxidRelay off talk = absurd (cc)
  relays-fills (message.SendTxRcncl version salt) off talk = absurd (cc)
  relays-fills (message.ReqRecon size q) off talk = absurd (cc)
  relays-fills (message.Sketch bytes) off talk = absurd (cc)
  relays-fills message.ReqSketchExt off talk = absurd (cc)
  relays-fills (message.ReconcilDiff success asks) off talk = absurd (cc)
  relays-fills (message.Ping n) off talk = absurd (cc)
  relays-fills (message.Pong n) off talk = absurd (cc)

  takes-fills : (m : Message) → stage_of s.machine.phase ≡ Past → is_round (topic_of m) ≡ false → is_handshake (topic_of m) ≡ false → Fills (on_message s m)
  takes-fills m past off talk = subst Fills (sym (relays_past s.machine.phase s m past)) (relays-fills m off talk)

  -- ---- an introduction is taken

  relay_fills : s.machine.phase ≡ phase.Greeted → Fills (on_message s message.WtxidRelay)
  unfolding in_phase in_greeted
  relay_fills met = subst Fills (sym (ap (λ p. in_phase p s message.WtxidRelay) met)) (goes_fills (in_greeted s message.WtxidRelay) going)

  offer_fills : (c : Config) → IsConfig c → s.machine.phase ≡ phase.Greeted → s.peer.offer ≡ None → Fills (on_message s (offer_message (own_offer c)))
  unfolding in_phase in_greeted offer_by
  offer_fills c sound met new =
      subst Fills
      (sym (ap (λ p. in_phase p s (offer_message (own_offer c))) met
      ∙ (ap (λ b. offer_by b (is_some s.peer.offer) s (own_offer c)) (some_version c.top sound.least)
      ∙ ap (λ (o : Option Offer). offer_by false (is_some o) s (own_offer c)) new))) (goes_fills (offer_by false false s (own_offer c)) going)

  verack_fills : (c : Config) → s.machine.phase ≡ phase.Greeted → s.peer ≡ noted_peer VerackAlone c → Fills (on_message s message.Verack)
  unfolding in_phase in_greeted verack_by noted_peer
  verack_fills c met peer =
      subst Fills (sym (ap (λ p. in_phase p s message.Verack) met ∙ ap (λ (p : Peer). verack_by p.relays_by_id p.offer s) peer)) (goes_fills (verack_by true (Some (own_offer c)) s) going)

  version_fills : (c : Config) → s.machine.phase ≡ phase.Greeting → Fills (on_message s (message.Version (own_version c)))
  version_fills c new = subst Fills (sym (version_row s c new)) (λ e h. absurd (let apart : None ≡ Some e = sym going ∙ h in cc))

abbrev FillsFront : NodeState → List Message → Type 0
FillsFront s [] = Unit {0}
FillsFront s (m ∷ ms) = is_round (topic_of m) ≡ false → Fills (on_message s m)

later_talk : (own : Rest) (m : Message) (ms : List Message) → IsBehindIntroduction own (m ∷ ms) → is_handshake (topic_of m) ≡ false
unfolding IsBehindIntroduction
later_talk NoRest m ms h = h.0.later
later_talk WholeRest m ms h = absurd (cc)
later_talk FromOffer m ms h = absurd (cc)
later_talk VerackAlone m ms h = absurd (cc)

half_fills : (left own : Rest) (sender reader : NodeState) (m : Message) (ms : List Message) → IsConfig sender.config → reader.ended ≡ None → IsHalfHandshake left own sender reader (m ∷ ms) → FillsFront reader (m ∷ ms)
unfolding rest_messages stage_by_rest noted_peer
half_fills WholeRest own sender reader m ms config going h =
    subst (FillsFront reader) (sym h.carries) (λ off. relay_fills reader going (met_phase reader.machine.phase h.stage))
half_fills FromOffer own sender reader m ms config going h =
    subst (FillsFront reader) (sym h.carries) (λ off. offer_fills reader going sender.config config (met_phase reader.machine.phase h.stage) (ap (λ (p : Peer). p.offer) h.peer))
half_fills VerackAlone own sender reader m ms config going h =
    subst (FillsFront reader) (sym h.carries) (λ off. verack_fills reader going sender.config (met_phase reader.machine.phase h.stage) h.peer)
half_fills NoRest own sender reader m ms config going h = λ off. takes-fills reader going m h.stage off (later_talk own m ms (subst (IsBehindIntroduction own) (sym h.carries) h.after))

-- ---- both sides

pub fills_b : (p : Pair) (m : Message) (ms : List Message) → IsConfig p.a.config → HasHandshake p → p.b.ended ≡ None → p.to_b ≡ m ∷ ms → is_round (topic_of m) ≡ false → Fills (on_message p.b m)
fills_b p m ms config (Calling c) going e off = subst (FillsFront p.b) (sym c.to_b ∙ e) (λ h. version_fills p.b going p.a.config c.b.phase) off
fills_b p m ms config (Replying c) going e off = absurd (let apart : [] ≡ m ∷ ms = sym c.to_b ∙ e in cc)
fills_b p m ms config (Introducing l k h g) going e off = half_fills l k p.a p.b m ms config going (subst (IsHalfHandshake l k p.a p.b) e h) off

pub fills_a : (p : Pair) (m : Message) (ms : List Message) → IsConfig p.b.config → HasHandshake p → p.a.ended ≡ None → p.to_a ≡ m ∷ ms → is_round (topic_of m) ≡ false → Fills (on_message p.a m)
fills_a p m ms config (Calling c) going e off = absurd (let apart : [] ≡ m ∷ ms = sym c.to_a ∙ e in cc)
fills_a p m ms config (Replying c) going e off = subst (FillsFront p.a) (sym c.to_a ∙ e) (λ h. version_fills p.a going p.b.config c.a.phase) off
fills_a p m ms config (Introducing l k h g) going e off = half_fills k l p.b p.a m ms config going (subst (IsHalfHandshake k l p.b p.a) e g) off
