-- Steps at a conversation.
use Rattle.std.proofs.Common.{◌≡◌, ℕ, true, false, List, None, Ok, Err, refl, ap, subst, append-nil}
use Rattle.std.specs.List.{AllByRecursion}
use Rattle.wire_rules.specs.Commands.{name_of}
use Rattle.wire_rules.specs.Limits.{IsMessage}
use Rattle.wire_rules.specs.declared.message.Message.{Message}
use Rattle.wire_rules.specs.declared.message.Message.TheVariants as message
use Rattle.wire_rules.specs.declared.name.Name.TheVariants as name
use Rattle.wire_rules.specs.declared.phase.Phase.{Phase}
use Rattle.wire_rules.specs.declared.phase.Phase.TheVariants as phase
use Rattle.node_rules.specs.Invariant.{IsNode}
use Rattle.node_rules.specs.Handshake.{in_greeting, in_greeted}
use Rattle.node_rules.specs.Inventory.{on_tx}
use Rattle.node_rules.specs.Stages.{is_after_handshake}
use Rattle.node_rules.specs.State.{NodeState, NodeView}
use Rattle.node_rules.specs.Steps.{in_phase, in_relay, on_message}
use Rattle.node_rules.specs.Turns.{Turn, after_turn, refusal, unchanged}
use Rattle.node_rules.specs.declared.end.End.{End}
use Rattle.node_rules.specs.declared.end.End.TheVariants as end
use Rattle.invariant_laws.proofs.Sending.{on_message-sendable}
use Rattle.relay_store.specs.Holdings.{Holdings, holdings_of}
use Rattle.conversation.specs.Handled.{IsStarved, IsStep}
use Rattle.conversation.specs.declared.stop.Stop.TheVariants as stop

in_its_relay : (p : Phase) (s : NodeState) (m : Message) → is_after_handshake p ≡ true → in_phase p s m ≡ in_relay s m
unfolding in_phase is_after_handshake
in_its_relay phase.Greeting s m e = absurd (let apart : false ≡ true = e in cc)
in_its_relay phase.Greeted s m e = absurd (let apart : false ≡ true = e in cc)
in_its_relay other s m e = refl

-- a message behind the handshake
pub relayed : (s : NodeState) (m : Message) → is_after_handshake s.machine.phase ≡ true → on_message s m ≡ in_relay s m
relayed s m e = in_its_relay s.machine.phase s m e

pub relayed-sendable : (s : NodeState) (m : Message) → IsNode s → IsMessage m → is_after_handshake s.machine.phase ≡ true → AllByRecursion IsMessage (in_relay s m).out
relayed-sendable s m h sound past = subst (λ (t : Turn). AllByRecursion IsMessage t.out) (relayed s m past) (on_message-sendable s h m sound)

pub behind : (p : Phase) → (p ≡ phase.Greeting → ⊥) → (p ≡ phase.Greeted → ⊥) → is_after_handshake p ≡ true
unfolding is_after_handshake
behind phase.Greeting a b = absurd (a refl)
behind phase.Greeted a b = absurd (b refl)
behind other a b = refl

pub relayed_tx : (s : NodeState) (tx : List ℕ) → is_after_handshake s.machine.phase ≡ true → on_message s (message.Tx tx) ≡ on_tx s tx
unfolding in_relay
relayed_tx s tx past = relayed s (message.Tx tx) past

-- a transaction before the handshake is over
early_in : (p : Phase) (s : NodeState) (tx : List ℕ) → is_after_handshake p ≡ false → in_phase p s (message.Tx tx) ≡ refusal s (end.Handshake name.Tx)
unfolding in_phase is_after_handshake in_greeting in_greeted name_of
early_in phase.Greeting s tx e = refl
early_in phase.Greeted s tx e = refl
early_in other s tx e = absurd (let apart : true ≡ false = e in cc)

pub early_tx : (s : NodeState) (tx : List ℕ) → is_after_handshake s.machine.phase ≡ false → on_message s (message.Tx tx) ≡ refusal s (end.Handshake name.Tx)
early_tx s tx e = early_in s.machine.phase s tx e

-- a step that sends nothing
pub quiet : (v : NodeView) (s : NodeState) → after_turn v (unchanged s) ≡ record v { state = s }
quiet v s = ap (λ xs. record v { state = s; outbox = xs }) (append-nil v.outbox)

-- ---- how a step is taken

pub taken : (t : Turn) (v new : NodeView) → new ≡ after_turn v t → t.state.ended ≡ None → IsStep t v new (Ok tt)
unfolding IsStep
taken t v new e unended = (e, unended)

pub refused : (t : Turn) (v new : NodeView) (e : End) → new ≡ v → t ≡ refusal v.state e → IsStep t v new (Err (stop.Ended e))
unfolding IsStep
refused t v new e same is = (same, is)

pub starved : (t : Turn) (v new : NodeView) → IsStarved v new → IsStep t v new (Err stop.OutOfMemory)
unfolding IsStep
starved t v new h = h

-- ---- other holdings

abbrev pub with_holdings : NodeView → Holdings → NodeView
with_holdings v h = record v { state = record v.state { pool = h.pool; wants = h.wants } }

pub starved_holding : (v : NodeView) (h : Holdings) → h.pool ≡ v.state.pool → IsStarved v (with_holdings v h)
starved_holding v h e = record { config = refl; pool = e; outbox = refl }

pub same_holding : (v : NodeView) (h : Holdings) → h ≡ holdings_of v.state → with_holdings v h ≡ v
same_holding v h e = ap (with_holdings v) e
