-- How a session begins, and what it leaves in the words of its contract.
use Rattle.std.proofs.Common.{◌≡◌, ◌≢◌, ℕ, ◌<◌, ◌≤◌, ◌==◌, Bool, true, false, not, List, [], ◌∷◌, ◌++◌, length, Option, Some, None, refl, sym, ap, subst, ◌∙◌, ap₂, ◌&&◌, Result, Ok, Err, IfErr, length-append, arith}
use Rattle.std.proofs.lemmas.Bool.{and_parts, eqb-true}
use Rattle.std.specs.List.{concat}
use Rattle.std.proofs.Math.Dec.{eqb-suc-zero}
use Rattle.std.specs.Int.{to_le_bytes, w32}
use Rattle.wire_rules.specs.Layout.{checksum, frame_bytes, frame_of, message_bytes, wire_bytes}
use Rattle.wire_rules.specs.declared.frame.Frame.{Frame}
use Rattle.wire_rules.specs.declared.message.Message.TheVariants as message
use Rattle.wire_rules.specs.declared.phase.Phase.{Phase}
use Rattle.link_rules.specs.Links.{Link, Piece, bytes_of_pieces, new_link, received_bytes}
use Rattle.pool_rules.specs.Pools.{Transaction}
use Rattle.node_rules.specs.Handshake.{opening, own_version}
use Rattle.node_rules.specs.Stages.{is_idle}
use Rattle.node_rules.specs.State.{NodeState, NodeView, opening_state}
use Rattle.node_rules.specs.declared.config.Config.{Config}
use Rattle.node_rules.specs.declared.config.Role.{Role}
use Rattle.node_rules.specs.declared.config.Role.TheVariants as role
use Rattle.session_rules.specs.Session.{AreInTime, IsSession, Session, after_pieces, session_start}
use Rattle.session_rules.specs.declared.limits.TheConstants.{SESSION_LIMIT}
use Rattle.session_rules.specs.declared.session_end.SessionEnd.{SessionEnd}
use Rattle.session_rules.specs.declared.session_end.SessionEnd.TheVariants as session_end
use Rattle.erlay_base.specs.Told.{AreTold}
use Rattle.erlay_base.specs.WireCalls.{IsUnused}
use Rattle.session.specs.Sessions.{HasCauseOfFault, HasSession, IsBusyIn, IsNew, IsReceivedInTime, IsSessionBy, end_in, is_input_over, new_node}
use Rattle.session.specs.Standing.{IsAt, IsLeft, IsLinkSince, IsOver, IsStanding, is_opener}
use Rattle.session.proofs.Links.{first-link}

-- ---- who speaks first

-- what ends in a list with 4 bytes in it isn't empty
some-bytes : (magic command size sum payload : List ℕ) → length size ≡ 4 → 0 < length ((magic ++ command ++ size ++ sum ++ payload) ++ [])
some-bytes magic command size sum payload four = grind (arith, length-append)

not_empty : (xs : List ℕ) → 0 < length xs → not (length xs == 0) ≡ true
not_empty [] some = absurd (omega arith)
not_empty (x ∷ xs) some = ap not (eqb-suc-zero (length xs))

frame-some : (magic : List ℕ) (f : Frame) → 0 < length (frame_bytes magic f ++ [])
frame-some magic f = some-bytes magic f.command (to_le_bytes w32 (length f.payload)) (checksum f.payload) f.payload refl

opening-speaks : (r : Role) (c : Config) → not (length (wire_bytes c.magic (opening r c)) == 0) ≡ is_opener r
unfolding opening is_opener
opening-speaks role.Opener c = not_empty (message_bytes c.magic (message.Version (own_version c)) ++ []) (frame-some c.magic (frame_of (message.Version (own_version c))))
opening-speaks role.Accepter c = refl

-- ---- how it begins

greeting-busy : (c : Config) (pool : List Transaction) → is_idle (opening_state c pool).machine.phase ≡ false
unfolding is_idle
greeting-busy c pool = refl

first-at : (c : Config) (pool : List Transaction) (opens : Bool) (rounds : ℕ) (v : NodeView) → v ≡ new_node c pool → opens ≡ not (length v.outbox == 0) → IsAt opens rounds rounds (session_start (opening_state c pool)) [] v
first-at c pool opens rounds v new speaks =
    let state : v.state ≡ opening_state c pool = ap (λ (n : NodeView). n.state) new in
    record {
      state = state;
      given = ap (λ (n : NodeView). n.outbox) new;
      memory = ap (λ (n : NodeView). n.out_of_memory) new;
      unended = ap (λ (s : NodeState). s.ended) state;
      opener = speaks ∙ (ap (λ (n : NodeView). not (length n.outbox == 0)) new ∙ (opening-speaks c.role c ∙ ap (λ (s : NodeState). is_opener s.config.role) (sym state)));
      counted = omega arith;
      busy = λ opens_is idle.
          let greeting : is_idle v.state.machine.phase ≡ false = ap (λ (s : NodeState). is_idle s.machine.phase) state ∙ greeting-busy c pool in
          absurd (cc);
    }

pub first-standing : (opens : Bool) (rounds : ℕ) (before : Option Link) (ended : Bool) (v : NodeView) → IsNew v → IsUnused before → ended ≡ false → opens ≡ not (length v.outbox == 0)
    → IsStanding opens rounds (session_start (opening_state v.state.config v.state.pool)) before before ended v rounds 0
unfolding after_pieces AreInTime
first-standing opens rounds before ended v new unused going speaks =
    let first = first-link before unused in
    let start = session_start (opening_state v.state.config v.state.pool) in
    let pieces : first.next.pieces ≡ [] = first.pieces_are in
    let at : IsAt opens rounds rounds start [] v = first-at v.state.config v.state.pool opens rounds v new speaks in
    record {
      now = first.next;
      since = first.since;
      input = first.input_is;
      going = going;
      at = subst (λ (ps : List Piece). IsAt opens rounds rounds (after_pieces rounds start (bytes_of_pieces ps)) first.next.sent v) (sym pieces) (subst (λ (s : List ℕ). IsAt opens rounds rounds start s v) (sym first.sent) at);
      in_time = subst (AreInTime rounds start) (sym pieces) tt;
      counted = ap (λ (ps : List Piece). length (concat (bytes_of_pieces ps))) pieces;
    }

-- no memory for a piece: nothing was received
pub first-over : (opens : Bool) (rounds : ℕ) (start : Session) (before told : Option Link) (ended : Bool) (v : NodeView) (left received : ℕ) → received ≤ SESSION_LIMIT → IsStanding opens rounds start before told ended v left received
    → IsOver opens rounds start before told ended v session_end.OutOfMemory
unfolding end_in is_input_over
first-over opens rounds start before told ended v left received most h = record {
  now = h.now;
  since = h.since;
  input = h.input ∙ sym h.going;
  in_time = h.in_time;
  most = omega (arith, h.counted);
  left = λ other. absurd (other refl);
  end = h.at.unended;
  opener = h.at.opener;
  input_by = h.going;
  busy = λ p e. absurd (cc);
}

-- ---- what it leaves

session-of : (rounds : ℕ) (c : Config) (pool : List Transaction) (old new : Link) (v : NodeView) (answer : SessionEnd) → IsReceivedInTime rounds (session_start (opening_state c pool)) old new → IsLeft rounds (session_start (opening_state c pool)) new v answer → IsSession rounds c pool old new v answer
session-of rounds c pool old new v answer h left = record {
  state = left.state;
  given = left.given;
  in_time = h.in_time;
  received = h.received;
  most = h.most;
  calls = h.calls;
  cause = left.cause;
}

session-by : (answer : SessionEnd) (rounds : ℕ) (c : Config) (pool : List Transaction) (old new : Link) (v : NodeView) → IsReceivedInTime rounds (session_start (opening_state c pool)) old new
    → (answer ≢ session_end.OutOfMemory → IsLeft rounds (session_start (opening_state c pool)) new v answer) → IsSessionBy answer rounds c pool old new v
unfolding IsSessionBy
session-by session_end.OutOfMemory rounds c pool old new v h left = h
session-by session_end.Done rounds c pool old new v h left = session-of rounds c pool old new v session_end.Done h (left (λ e. cc))
session-by (session_end.Refused e) rounds c pool old new v h left = session-of rounds c pool old new v (session_end.Refused e) h (left (λ e. cc))
session-by (session_end.Truncated p) rounds c pool old new v h left = session-of rounds c pool old new v (session_end.Truncated p) h (left (λ e. cc))
session-by session_end.LinkFault rounds c pool old new v h left = session-of rounds c pool old new v session_end.LinkFault h (left (λ e. cc))
session-by session_end.SessionLimit rounds c pool old new v h left = session-of rounds c pool old new v session_end.SessionLimit h (left (λ e. cc))

module _ (opens : Bool) (rounds : ℕ) (first v : NodeView) (after : Option Link) (ended : Bool) (answer : SessionEnd) where
  abbrev first_session : Session
  first_session = session_start (opening_state first.state.config first.state.pool)

  over-told : (old : Link) (before : Option Link) → (h : IsOver opens rounds first_session before after ended v answer) → old.coming ≡ received_bytes h.now ++ h.now.coming → h.now.calls ≡ old.calls
      → AreTold before after (λ o n. (o ≡ old) × (n ≡ h.now)) → HasSession rounds first before after ended v answer
  over-told old before h coming calls told = record {
    old = old;
    new = h.now;
    told = told;
    input = h.input;
    is_session = session-by answer rounds first.state.config first.state.pool old h.now v (record { in_time = h.in_time; received = coming; most = h.most; calls = calls }) h.left;
  }

  pub over-session : (before : Option Link) → IsOver opens rounds first_session before after ended v answer → HasSession rounds first before after ended v answer
  unfolding IsLinkSince
  over-session None h = over-told (new_link h.now.calls (received_bytes h.now ++ h.now.coming)) None h refl refl tt
  over-session (Some old) h = over-told old (Some old) h h.since.1 h.since.2 (subst (λ (t : Option Link). AreTold (Some old) t (λ o n. (o ≡ old) × (n ≡ h.now))) (sym h.since.0) (refl, refl))

-- ---- the role, told by who speaks first

same-role : (a b : Role) → is_opener a ≡ is_opener b → a ≡ b
unfolding is_opener
same-role role.Opener role.Opener e = refl
same-role role.Opener role.Accepter e = absurd (cc)
same-role role.Accepter role.Opener e = absurd (cc)
same-role role.Accepter role.Accepter e = refl

busy-in : (r : Role) (answer : SessionEnd) → ((p : Phase) → answer ≡ session_end.Truncated p → is_opener r ≡ true → is_idle p ≡ false) → IsBusyIn r answer
unfolding IsBusyIn is_opener
busy-in role.Opener session_end.Done h = tt
busy-in role.Opener (session_end.Refused e) h = tt
busy-in role.Opener (session_end.Truncated p) h = h p refl refl
busy-in role.Opener session_end.LinkFault h = tt
busy-in role.Opener session_end.SessionLimit h = tt
busy-in role.Opener session_end.OutOfMemory h = tt
busy-in role.Accepter session_end.Done h = tt
busy-in role.Accepter (session_end.Refused e) h = tt
busy-in role.Accepter (session_end.Truncated p) h = tt
busy-in role.Accepter session_end.LinkFault h = tt
busy-in role.Accepter session_end.SessionLimit h = tt
busy-in role.Accepter session_end.OutOfMemory h = tt

module _ (opens : Bool) (rounds : ℕ) (start : Session) (before after : Option Link) (ended : Bool) (v : NodeView) (answer : SessionEnd) (h : IsOver opens rounds start before after ended v answer) (r : Role) (opens_is : opens ≡ is_opener r) where
  pub over-input : ended ≡ is_input_over r answer
  over-input = h.input_by ∙ ap (λ (q : Role). is_input_over q answer) (same-role v.state.config.role r (sym h.opener ∙ opens_is))

  pub over-busy : IsBusyIn r answer
  over-busy = busy-in r answer (λ p e speaks. h.busy p e (opens_is ∙ speaks))

-- ---- what the tests of a turn say

pub finished-parts : (opens : Bool) (left : ℕ) (idle : Bool) → (opens && ((left == 0) && idle)) ≡ true → (opens ≡ true) × (left ≡ 0) × (idle ≡ true)
finished-parts opens left idle h =
    let first = and_parts opens ((left == 0) && idle) h in
    let second = and_parts (left == 0) idle first.1 in
    (first.0, eqb-true left 0 second.0, second.1)

pub unfinished-busy : (opens : Bool) (left : ℕ) (idle : Bool) → (opens && ((left == 0) && idle)) ≡ false → opens ≡ true → left ≡ 0 → idle ≡ false
unfinished-busy opens left idle h opens_is none = sym (ap₂ (λ (a b : Bool). a && (b && idle)) opens_is (ap (λ (n : ℕ). n == 0) none)) ∙ h

-- an answer of a node is no fault of the wire
pub no-fault : (r : Result Unit SessionEnd) (before now : ℕ) → IfErr r (λ answer. answer ≢ session_end.LinkFault) → now ≡ before → IfErr r (HasCauseOfFault before now)
no-fault (Ok done) before now h same = tt
no-fault (Err answer) before now h same = record { later = omega (arith, same); failed = λ e. absurd (h e); no_fault = λ _. same }

-- ---- the first answer

module _ (rounds : ℕ) (before : Option Link) (ended : Bool) (v : NodeView) (new : IsNew v) (unused : IsUnused before) (going : ended ≡ false) where
  pub first-starved : IsOver (not (length v.outbox == 0)) rounds (session_start (opening_state v.state.config v.state.pool)) before before ended v session_end.OutOfMemory
  first-starved =
      first-over (not (length v.outbox == 0)) rounds (session_start (opening_state v.state.config v.state.pool)) before before ended v rounds 0 (omega arith)
      (first-standing (not (length v.outbox == 0)) rounds before ended v new unused going refl)
