-- A message by the stage of a conversation.
use Rattle.std.proofs.Common.{◌≡◌, ℕ, Bool, true, List, [], ◌∷◌, Result, refl, sym, subst}
use Rattle.wire_rules.specs.Commands.{name_of}
use Rattle.wire_rules.specs.declared.message.InvEntry.{InvEntry}
use Rattle.wire_rules.specs.declared.message.Message.{Message}
use Rattle.wire_rules.specs.declared.message.Message.TheVariants as message
use Rattle.wire_rules.specs.declared.name.Name.TheVariants as name
use Rattle.node_rules.specs.declared.end.End.TheVariants as end
use Rattle.wire_rules.specs.declared.phase.Phase.{Phase}
use Rattle.wire_rules.specs.declared.phase.Phase.TheVariants as phase
use Rattle.wire_rules.specs.declared.message.VersionMsg.{VersionMsg}
use Rattle.node_rules.specs.Barrier.{on_pong}
use Rattle.node_rules.specs.Handshake.{in_greeting, in_greeted, on_unexpected, on_version, on_wtxidrelay, on_sendtxrcncl, on_verack}
use Rattle.node_rules.specs.Inventory.{on_inv, on_getdata, on_notfound, on_tx}
use Rattle.node_rules.specs.Stages.{is_after_handshake}
use Rattle.node_rules.specs.State.{NodeState, NodeView}
use Rattle.node_rules.specs.Steps.{in_phase, in_relay, on_message}
use Rattle.node_rules.specs.Turns.{Turn, turn_with, unchanged, refusal}
use Rattle.conversation.specs.Handled.{IsStep}
use Rattle.conversation.specs.declared.stop.Stop.{Stop}
use Rattle.conversation.proofs.Behind.{relayed}

greeting_is : (p : Phase) (s : NodeState) (m : Message) → p ≡ phase.Greeting → in_phase p s m ≡ in_greeting s m
unfolding in_phase
greeting_is phase.Greeting s m e = refl
greeting_is other s m e = subst (λ p. in_phase p s m ≡ in_greeting s m) (sym e) refl

pub greeted_is : (p : Phase) (s : NodeState) (m : Message) → p ≡ phase.Greeted → in_phase p s m ≡ in_greeted s m
unfolding in_phase
greeted_is phase.Greeted s m e = refl
greeted_is other s m e = subst (λ p. in_phase p s m ≡ in_greeted s m) (sym e) refl

pub not_before : (p : Phase) → (p ≡ phase.Greeting → ⊥) → (p ≡ phase.Greeted → ⊥) → is_after_handshake p ≡ true
unfolding is_after_handshake
not_before phase.Greeting a b = absurd (a refl)
not_before phase.Greeted a b = absurd (b refl)
not_before other a b = refl

module _ (v new : NodeView) (m : Message) (told : Result Unit Stop) where
  pub greeting_handled : v.state.machine.phase ≡ phase.Greeting → IsStep (in_greeting v.state m) v new told → IsStep (on_message v.state m) v new told
  greeting_handled e h = subst (λ t. IsStep t v new told) (sym (greeting_is v.state.machine.phase v.state m e)) h

  pub greeted_handled : v.state.machine.phase ≡ phase.Greeted → IsStep (in_greeted v.state m) v new told → IsStep (on_message v.state m) v new told
  greeted_handled e h = subst (λ t. IsStep t v new told) (sym (greeted_is v.state.machine.phase v.state m e)) h

  pub relay_handled : is_after_handshake v.state.machine.phase ≡ true → IsStep (in_relay v.state m) v new told → IsStep (on_message v.state m) v new told
  relay_handled e h = subst (λ t. IsStep t v new told) (sym (relayed v.state m e)) h

-- what is no row of the relay is passed over, or doesn't belong there
pub relay_other : (s : NodeState) (m : Message) → ((size q : ℕ) → m ≡ message.ReqRecon size q → ⊥) → ((bytes : List ℕ) → m ≡ message.Sketch bytes → ⊥) → (m ≡ message.ReqSketchExt → ⊥) → ((success : Bool) (ns : List ℕ) → m ≡ message.ReconcilDiff success ns → ⊥)
    → ((es : List InvEntry) → m ≡ message.Inv es → ⊥) → ((es : List InvEntry) → m ≡ message.GetData es → ⊥) → ((es : List InvEntry) → m ≡ message.NotFound es → ⊥) → ((tx : List ℕ) → m ≡ message.Tx tx → ⊥)
    → ((n : ℕ) → m ≡ message.Ping n → ⊥) → ((n : ℕ) → m ≡ message.Pong n → ⊥) → in_relay s m ≡ on_unexpected s (name_of m)
unfolding in_relay name_of
relay_other s (message.ReqRecon size q) a b c d e f g h i j = absurd (a size q refl)
relay_other s (message.Sketch bytes) a b c d e f g h i j = absurd (b bytes refl)
relay_other s message.ReqSketchExt a b c d e f g h i j = absurd (c refl)
relay_other s (message.ReconcilDiff success ns) a b c d e f g h i j = absurd (d success ns refl)
relay_other s (message.Inv es) a b c d e f g h i j = absurd (e es refl)
relay_other s (message.GetData es) a b c d e f g h i j = absurd (f es refl)
relay_other s (message.NotFound es) a b c d e f g h i j = absurd (g es refl)
relay_other s (message.Tx tx) a b c d e f g h i j = absurd (h tx refl)
relay_other s (message.Ping n) a b c d e f g h i j = absurd (i n refl)
relay_other s (message.Pong n) a b c d e f g h i j = absurd (j n refl)
relay_other s (message.Version v) a b c d e f g h i j = refl
relay_other s message.Verack a b c d e f g h i j = refl
relay_other s message.WtxidRelay a b c d e f g h i j = refl
relay_other s (message.SendTxRcncl version salt) a b c d e f g h i j = refl
relay_other s (message.Other command payload) a b c d e f g h i j = refl

pub step_as : (v new : NodeView) (told : Result Unit Stop) (t u : Turn) → t ≡ u → IsStep u v new told → IsStep t v new told
step_as v new told t u e h = subst (λ t. IsStep t v new told) (sym e) h

-- ---- the rows of each table

pub greeting_version : (s : NodeState) (m : Message) (x : VersionMsg) → m ≡ message.Version x → in_greeting s m ≡ on_version s x
unfolding in_greeting
greeting_version s m x e = subst (λ m. in_greeting s m ≡ on_version s x) (sym e) refl

pub greeting_ping : (s : NodeState) (m : Message) (n : ℕ) → m ≡ message.Ping n → in_greeting s m ≡ unchanged s
unfolding in_greeting
greeting_ping s m n e = subst (λ m. in_greeting s m ≡ unchanged s) (sym e) refl

pub greeting_pong : (s : NodeState) (m : Message) (n : ℕ) → m ≡ message.Pong n → in_greeting s m ≡ unchanged s
unfolding in_greeting
greeting_pong s m n e = subst (λ m. in_greeting s m ≡ unchanged s) (sym e) refl

pub greeted_relay : (s : NodeState) (m : Message) → m ≡ message.WtxidRelay → in_greeted s m ≡ on_wtxidrelay s
unfolding in_greeted
greeted_relay s m e = subst (λ m. in_greeted s m ≡ on_wtxidrelay s) (sym e) refl

pub greeted_offer : (s : NodeState) (m : Message) (version salt : ℕ) → m ≡ message.SendTxRcncl version salt → in_greeted s m ≡ on_sendtxrcncl s (record { version = version; salt = salt })
unfolding in_greeted
greeted_offer s m version salt e = subst (λ m. in_greeted s m ≡ on_sendtxrcncl s (record { version = version; salt = salt })) (sym e) refl

pub greeted_verack : (s : NodeState) (m : Message) → m ≡ message.Verack → in_greeted s m ≡ on_verack s
unfolding in_greeted
greeted_verack s m e = subst (λ m. in_greeted s m ≡ on_verack s) (sym e) refl

pub greeted_ping : (s : NodeState) (m : Message) (n : ℕ) → m ≡ message.Ping n → in_greeted s m ≡ unchanged s
unfolding in_greeted
greeted_ping s m n e = subst (λ m. in_greeted s m ≡ unchanged s) (sym e) refl

pub greeted_pong : (s : NodeState) (m : Message) (n : ℕ) → m ≡ message.Pong n → in_greeted s m ≡ unchanged s
unfolding in_greeted
greeted_pong s m n e = subst (λ m. in_greeted s m ≡ unchanged s) (sym e) refl

pub greeting_tx : (s : NodeState) (tx : List ℕ) → in_greeting s (message.Tx tx) ≡ refusal s (end.Handshake name.Tx)
unfolding in_greeting name_of
greeting_tx s tx = refl

pub greeted_tx : (s : NodeState) (tx : List ℕ) → in_greeted s (message.Tx tx) ≡ refusal s (end.Handshake name.Tx)
unfolding in_greeted name_of
greeted_tx s tx = refl

pub relay_inv : (s : NodeState) (es : List InvEntry) → in_relay s (message.Inv es) ≡ on_inv s es
unfolding in_relay
relay_inv s es = refl

pub relay_getdata : (s : NodeState) (es : List InvEntry) → in_relay s (message.GetData es) ≡ on_getdata s es
unfolding in_relay
relay_getdata s es = refl

pub relay_notfound : (s : NodeState) (es : List InvEntry) → in_relay s (message.NotFound es) ≡ on_notfound s es
unfolding in_relay
relay_notfound s es = refl

pub relay_tx : (s : NodeState) (tx : List ℕ) → in_relay s (message.Tx tx) ≡ on_tx s tx
unfolding in_relay
relay_tx s tx = refl

pub relay_ping : (s : NodeState) (n : ℕ) → in_relay s (message.Ping n) ≡ turn_with s (message.Pong n ∷ [])
unfolding in_relay
relay_ping s n = refl

pub relay_pong : (s : NodeState) (n : ℕ) → in_relay s (message.Pong n) ≡ on_pong s n
unfolding in_relay
relay_pong s n = refl
