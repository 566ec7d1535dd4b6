-- Each side says its part of the handshake once.
use Rattle.std.proofs.Common.{◌≡◌, ◌≤◌, ℕ, ◌+◌, ◌==◌, int_lt, pos, is_some, Bool, true, false, List, [], ◌∷◌, Option, Some, None, refl, sym, ap, ◌∙◌, subst, arith, lit≤}
use Rattle.std.specs.List.{AllByRecursion}
use Rattle.wire_rules.specs.Commands.{name_of}
use Rattle.wire_rules.specs.Limits.{IsMessage}
use Rattle.wire_rules.specs.declared.message.Message.{Message}
use Rattle.wire_rules.specs.declared.message.Message.TheVariants as message
use Rattle.wire_rules.specs.declared.message.VersionMsg.{VersionMsg}
use Rattle.wire_rules.specs.declared.name.Name.{Name}
use Rattle.wire_rules.specs.declared.phase.Phase.{Phase}
use Rattle.wire_rules.specs.declared.phase.Phase.TheVariants as phase
use Rattle.pool_rules.specs.Pools.{pool_ids}
use Rattle.node_rules.specs.Handshake.{reply, version_by, on_unexpected, in_greeting, offer_by, verack_by, in_greeted, has_no_relay}
use Rattle.node_rules.specs.State.{NodeState, Offer}
use Rattle.node_rules.specs.Steps.{in_phase, on_message}
use Rattle.node_rules.specs.Turns.{Turn, inv_of}
use Rattle.node_rules.specs.declared.config.Config.{Config}
use Rattle.node_rules.specs.declared.config.Role.{Role}
use Rattle.node_rules.specs.declared.config.Role.TheVariants as role
use Rattle.pair_invariant_rules.specs.Handshake.{Stage, New, Met, Past, stage_of}
use Rattle.pair_invariant_rules.specs.Topics.{IsRelayMessage, topic_of, is_handshake}
use Rattle.pair_invariant_laws.proofs.PlainTalk.{Stays, on_message-stays, inv_of-plain}
use Rattle.pair_bound_laws.specs.Costs.{total_weight, handshake_weight, remaining_handshake}

pub record Greets (s : NodeState) (t : Turn) : Type 0 where
  pub greets : remaining_handshake s.config.role t.state.machine.phase + total_weight handshake_weight t.out ≤ remaining_handshake s.config.role s.machine.phase

plain_none : (m : Message) → IsRelayMessage m → handshake_weight m ≡ 0
unfolding handshake_weight topic_of is_handshake
plain_none (message.Version v) h = absurd (let apart : true ≡ false = h.later in cc)
plain_none message.Verack h = absurd (let apart : true ≡ false = h.later in cc)
plain_none message.WtxidRelay h = absurd (let apart : true ≡ false = h.later in cc)
plain_none (message.SendTxRcncl version salt) h = absurd (let apart : true ≡ false = h.later in cc)
plain_none _ h = refl

pub plain_greets : (ms : List Message) → AllByRecursion IsRelayMessage ms → total_weight handshake_weight ms ≡ 0
unfolding total_weight
plain_greets [] h = refl
plain_greets (m ∷ ms) h = let one = plain_none m h.0 in let rest = plain_greets ms h.1 in let none : handshake_weight m + total_weight handshake_weight ms ≡ 0 = omega arith in none

pub due_later : (r : Role) (p : Phase) → (stage_of p ≡ New → ⊥) → remaining_handshake r p ≡ 0
unfolding remaining_handshake stage_of
due_later r phase.Greeting h = absurd (h refl)
due_later role.Opener _ h = refl
due_later role.Accepter _ h = refl

met_not_new : Met ≡ New → ⊥
met_not_new e = cc

past_not_new : Past ≡ New → ⊥
past_not_new e = cc

pub due_past : (r : Role) (p : Phase) → stage_of p ≡ Past → remaining_handshake r p ≡ 0
due_past r p e = due_later r p (λ h. past_not_new (sym e ∙ h))

due_reply : (r : Role) (c : Config) (p : Phase) → p ≡ phase.Greeting → remaining_handshake r phase.Greeted + total_weight handshake_weight (reply r c) ≤ remaining_handshake r p
unfolding remaining_handshake total_weight handshake_weight reply
due_reply role.Opener c p e = subst (λ q. remaining_handshake role.Opener phase.Greeted + total_weight handshake_weight (reply role.Opener c) ≤ remaining_handshake role.Opener q) (sym e) (lit≤ tt)
due_reply role.Accepter c p e = subst (λ q. remaining_handshake role.Accepter phase.Greeted + total_weight handshake_weight (reply role.Accepter c) ≤ remaining_handshake role.Accepter q) (sym e) (lit≤ tt)

new_phase : (p : Phase) → stage_of p ≡ New → p ≡ phase.Greeting
unfolding stage_of
new_phase phase.Greeting h = refl
new_phase _ h = absurd (cc)

met_phase : (p : Phase) → stage_of p ≡ Met → p ≡ phase.Greeted
unfolding stage_of
met_phase phase.Greeted h = refl
met_phase _ h = absurd (cc)

module _ (s : NodeState) where
  mute : (t : Turn) → t.state.machine.phase ≡ s.machine.phase → t.out ≡ [] → Greets s t
  unfolding total_weight
  mute t e o = record { greets = let same : remaining_handshake s.config.role t.state.machine.phase ≡ remaining_handshake s.config.role s.machine.phase = ap (remaining_handshake s.config.role) e in let none : total_weight handshake_weight t.out ≡ 0 = ap (total_weight handshake_weight) o in omega (arith, same, none) }

  out_of_place-greets : (n : Option Name) → Greets s (on_unexpected s n)
  out_of_place-greets (Some n) = mute (on_unexpected s (Some n)) refl refl
  out_of_place-greets None = mute (on_unexpected s None) refl refl

  version_by-greets : (old shy : Bool) (v : VersionMsg) → s.machine.phase ≡ phase.Greeting → Greets s (version_by old shy s v)
  unfolding version_by
  version_by-greets true shy v e = mute (version_by true shy s v) refl refl
  version_by-greets false true v e = mute (version_by false true s v) refl refl
  version_by-greets false false v e = record { greets = due_reply s.config.role s.config s.machine.phase e }

  in_greeting-greets : (m : Message) → s.machine.phase ≡ phase.Greeting → Greets s (in_greeting s m)
  unfolding in_greeting
  in_greeting-greets (message.Version v) e = version_by-greets (int_lt v.version (pos 70016)) (has_no_relay v.relay) v e
  in_greeting-greets (message.Ping n) e = mute (in_greeting s (message.Ping n)) refl refl
  in_greeting-greets (message.Pong n) e = mute (in_greeting s (message.Pong n)) refl refl
  in_greeting-greets other e = out_of_place-greets (name_of other)

  offer_by-greets : (zero again : Bool) (offer : Offer) → Greets s (offer_by zero again s offer)
  unfolding offer_by
  offer_by-greets true again offer = mute (offer_by true again s offer) refl refl
  offer_by-greets false true offer = mute (offer_by false true s offer) refl refl
  offer_by-greets false false offer = mute (offer_by false false s offer) refl refl

  idle_none : (r : Role) → remaining_handshake r phase.Idle ≡ 0
  unfolding remaining_handshake
  idle_none role.Opener = refl
  idle_none role.Accepter = refl

  verack_by-greets : (noted : Bool) (offer : Option Offer) → Greets s (verack_by noted offer s)
  unfolding verack_by
  verack_by-greets false offer = mute (verack_by false offer s) refl refl
  verack_by-greets true None = record { greets = let a = idle_none s.config.role in let b = plain_greets (inv_of (pool_ids s.pool)) (inv_of-plain (pool_ids s.pool)) in omega (arith, a, b) }
  verack_by-greets true (Some offer) = record { greets = let a = idle_none s.config.role in let b = plain_greets [] tt in omega (arith, a, b) }

  in_greeted-greets : (m : Message) → Greets s (in_greeted s m)
  unfolding in_greeted
  in_greeted-greets message.WtxidRelay = mute (in_greeted s message.WtxidRelay) refl refl
  in_greeted-greets (message.SendTxRcncl version salt) = offer_by-greets (version == 0) (is_some s.peer.offer) (record { version = version; salt = salt })
  in_greeted-greets message.Verack = verack_by-greets s.peer.relays_by_id s.peer.offer
  in_greeted-greets (message.Ping n) = mute (in_greeted s (message.Ping n)) refl refl
  in_greeted-greets (message.Pong n) = mute (in_greeted s (message.Pong n)) refl refl
  in_greeted-greets other = out_of_place-greets (name_of other)

  past_greets : (t : Turn) → Stays s t → Greets s t
  past_greets t h = record { greets = let a = due_past s.config.role t.state.machine.phase h.stage in let b = plain_greets t.out h.out in omega (arith, a, b) }

  by_stage : (st : Stage) (m : Message) → IsMessage m → stage_of s.machine.phase ≡ st → Greets s (on_message s m)
  unfolding in_phase
  by_stage New m sound e = subst (λ p. Greets s (in_phase p s m)) (sym (new_phase s.machine.phase e)) (in_greeting-greets m (new_phase s.machine.phase e))
  by_stage Met m sound e = subst (λ p. Greets s (in_phase p s m)) (sym (met_phase s.machine.phase e)) (in_greeted-greets m)
  by_stage Past m sound e = past_greets (on_message s m) (on_message-stays s e m sound)

  pub takes-greets : (m : Message) → IsMessage m → Greets s (on_message s m)
  takes-greets m sound = by_stage (stage_of s.machine.phase) m sound refl
