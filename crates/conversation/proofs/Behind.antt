-- Behind the handshake a node stays there, whatever it does.
use Rattle.std.proofs.Common.{◌≡◌, ℕ, zero, suc, true, false, List, [], ◌∷◌, refl, subst}
use Rattle.base_types.specs.declared.lists.Hash32.{Hash32}
use Rattle.wire_rules.specs.Limits.{IsMessage}
use Rattle.wire_rules.specs.declared.message.Message.{Message}
use Rattle.wire_rules.specs.declared.phase.Phase.{Phase}
use Rattle.wire_rules.specs.declared.phase.Phase.TheVariants as phase
use Rattle.node_rules.specs.Barrier.{phase_after_barrier, phase_after_fetch}
use Rattle.node_rules.specs.Stages.{waiting_phase, sent_phase, is_after_handshake}
use Rattle.node_rules.specs.State.{NodeState}
use Rattle.node_rules.specs.Steps.{in_phase, in_relay, on_message, on_start}
use Rattle.node_rules.specs.Turns.{Turn}
use Rattle.invariant_laws.proofs.Rows.{EachRow, on_message-rows, on_start-rows}

pub waiting-behind : (n : ℕ) → is_after_handshake (waiting_phase n) ≡ true
unfolding waiting_phase is_after_handshake
waiting-behind zero = refl
waiting-behind (suc zero) = refl
waiting-behind (suc (suc n)) = refl

sent-behind : (n : ℕ) → is_after_handshake (sent_phase n) ≡ true
unfolding sent_phase is_after_handshake
sent-behind zero = refl
sent-behind (suc zero) = refl
sent-behind (suc (suc n)) = refl

asked-behind : (ids : List Hash32) → is_after_handshake (phase_after_barrier ids) ≡ true
unfolding phase_after_barrier is_after_handshake
asked-behind [] = refl
asked-behind (id ∷ ids) = refl

fetched-behind : (ids : List Hash32) (p : Phase) → is_after_handshake p ≡ true → is_after_handshake (phase_after_fetch ids p) ≡ true
unfolding phase_after_fetch is_after_handshake
fetched-behind [] phase.Fetching e = refl
fetched-behind ids other e = e

greeting-before : (p q : Phase) → p ≡ phase.Greeting → is_after_handshake p ≡ true → is_after_handshake q ≡ true
unfolding is_after_handshake
greeting-before p q e h = let never : is_after_handshake phase.Greeting ≡ true = subst (λ x. is_after_handshake x ≡ true) e h in absurd (let apart : false ≡ true = never in cc)

abbrev StaysBehind : NodeState → Turn → Type 0
StaysBehind s t = is_after_handshake s.machine.phase ≡ true → is_after_handshake t.state.machine.phase ≡ true

rows : (s : NodeState) → EachRow s (StaysBehind s)
unfolding is_after_handshake
rows s = record {
  stays = λ h. h;
  ends = λ e h. h;
  version = λ e h. greeting-before s.machine.phase phase.Greeted e h;
  wtxidrelay = λ e h. h;
  offer = λ o e is none h. h;
  plain = λ e by_id none h. refl;
  whole = λ o e by_id some h. refl;
  answer = λ n bytes es a e h. refl;
  more = λ n bytes a e h. waiting-behind (suc n);
  fallback = λ n bytes a h. refl;
  first = λ size q a e h. sent-behind 0;
  extension = λ n a g e h. sent-behind (suc n);
  difference = λ n success asks a g e m h. refl;
  wants = λ es n h. h;
  request = λ es n h. h;
  getdata = λ es past m h. h;
  notfound = λ es past m h. fetched-behind _ s.machine.phase h;
  known = λ t past a p h. fetched-behind _ s.machine.phase h;
  gained = λ t past a p f h. fetched-behind _ s.machine.phase h;
  ping = λ n past m h. h;
  pong = λ r e h. asked-behind s.wants.wanted;
  addition = λ t a h. h;
  announcement = λ t a k past plain h. h;
  member = λ t a k past whole h. h;
  round = λ r idle h. waiting-behind 0;
  plain_round = λ r idle plain h. refl;
}

-- a message behind the handshake is one of the relay
relayed_in : (p : Phase) (s : NodeState) (m : Message) → is_after_handshake p ≡ true → in_phase p s m ≡ in_relay s m
unfolding in_phase is_after_handshake
relayed_in phase.Greeting s m e = absurd (let apart : false ≡ true = e in cc)
relayed_in phase.Greeted s m e = absurd (let apart : false ≡ true = e in cc)
relayed_in other s m e = refl

pub relayed : (s : NodeState) (m : Message) → is_after_handshake s.machine.phase ≡ true → on_message s m ≡ in_relay s m
relayed s m e = relayed_in s.machine.phase s m e

pub relayed-behind : (s : NodeState) (m : Message) → IsMessage m → is_after_handshake s.machine.phase ≡ true → is_after_handshake (in_relay s m).state.machine.phase ≡ true
relayed-behind s m sound e = subst (λ (t : Turn). is_after_handshake t.state.machine.phase ≡ true) (relayed s m e) (on_message-rows s (StaysBehind s) (rows s) m sound e)

pub started-behind : (s : NodeState) → is_after_handshake s.machine.phase ≡ true → is_after_handshake (on_start s).turn.state.machine.phase ≡ true
started-behind s e = on_start-rows s (StaysBehind s) (rows s) e

pub barrier-behind : is_after_handshake phase.Barrier ≡ true
unfolding is_after_handshake
barrier-behind = refl
