-- The steps of a node in a session: bytes sent, a piece taken, a round begun.
use Rattle.std.proofs.Common.{◌≡◌, ℕ, ◌+◌, Bool, true, false, List, ◌++◌, take, drop, Option, Some, None, refl, sym, ap, subst, ◌∙◌, append-nil, append_assoc}
use Rattle.std.proofs.lemmas.List.{take-append-drop}
use Rattle.wire_rules.specs.Layout.{wire_bytes}
use Rattle.node_rules.specs.Memory.{unless_out_of_memory, view_behind_piece, view_behind_start}
use Rattle.node_rules.specs.Stages.{is_idle, waiting_phase}
use Rattle.node_rules.specs.State.{NodeState, NodeView}
use Rattle.node_rules.specs.Steps.{count_of, on_piece, on_start, on_start_by, round_by}
use Rattle.node_rules.specs.Turns.{Turn, after_turn, unchanged}
use Rattle.node_rules.specs.declared.config.Role.{Role}
use Rattle.node_rules.specs.declared.config.Role.TheVariants as role
use Rattle.node_rules.specs.declared.end.End.{End}
use Rattle.node_laws.proofs.Ended.{on_start-ended}
use Rattle.session_rules.specs.Session.{Session, round_if_left, session_after}
use Rattle.session.specs.Standing.{is_opener}

-- ---- a node's view and a session's state, side by side

pub record IsSeen (x : Session) (sent : List ℕ) (v : NodeView) : Type 0 where
  pub state : v.state ≡ x.state
  pub given : sent ++ v.outbox ≡ x.given

pub seen-turn : (x : Session) (sent : List ℕ) (v : NodeView) (t : Turn) → IsSeen x sent v → IsSeen (session_after x t) sent (after_turn v t)
seen-turn x sent v t h = record {
  state = refl;
  given = sym (append_assoc sent v.outbox (wire_bytes t.state.config.magic t.out)) ∙ ap (λ g. g ++ wire_bytes t.state.config.magic t.out) h.given;
}

pub seen-unchanged : (x : Session) (sent : List ℕ) (v : NodeView) → IsSeen x sent v → IsSeen (session_after x (unchanged x.state)) sent v
seen-unchanged x sent v h = record { state = h.state; given = h.given ∙ sym (append-nil x.given) }

-- sent bytes wait no longer
pub seen-sent : (x : Session) (sent : List ℕ) (v : NodeView) (n : ℕ) → IsSeen x sent v → IsSeen x (sent ++ take n v.outbox) (record v { outbox = drop n v.outbox })
seen-sent x sent v n h = record {
  state = h.state;
  given = append_assoc sent (take n v.outbox) (drop n v.outbox) ∙ (ap (λ o. sent ++ o) (take-append-drop n v.outbox) ∙ h.given);
}

-- ---- memory

within_memory : (b : Bool) (v next : NodeView) → b ≡ false → unless_out_of_memory b v next ≡ next
unfolding unless_out_of_memory
within_memory b v next h = ap (λ (x : Bool). unless_out_of_memory x v next) h

pub behind : (v new : NodeView) (t : Turn) → v.out_of_memory ≡ false → new ≡ unless_out_of_memory v.out_of_memory v (after_turn v t) → new ≡ after_turn v t
behind v new t h e = e ∙ within_memory v.out_of_memory v (after_turn v t) h

-- ---- a piece

pub seen-piece : (x : Session) (sent : List ℕ) (v new : NodeView) (piece : List ℕ) → v.out_of_memory ≡ false → new ≡ view_behind_piece v piece → IsSeen x sent v → IsSeen (session_after x (on_piece x.state piece)) sent new
seen-piece x sent v new piece memory e h =
    subst (λ (s : NodeState). IsSeen (session_after x (on_piece s piece)) sent new) h.state
    (subst (IsSeen (session_after x (on_piece v.state piece)) sent) (sym (behind v new (on_piece v.state piece) memory e)) (seen-turn x sent v (on_piece v.state piece) h))

-- ---- a round

-- where it may begin, one is begun, and where none is left, nothing happens
pub seen-start : (x : Session) (sent : List ℕ) (v new : NodeView) → v.out_of_memory ≡ false → new ≡ view_behind_start v → IsSeen x sent v → IsSeen (session_after x (on_start x.state).turn) sent new
seen-start x sent v new memory e h =
    subst (λ (s : NodeState). IsSeen (session_after x (on_start s).turn) sent new) h.state
    (subst (IsSeen (session_after x (on_start v.state).turn) sent) (sym (behind v new (on_start v.state).turn memory e)) (seen-turn x sent v (on_start v.state).turn h))

pub seen-round_left : (b : Bool) (x : Session) (sent : List ℕ) (v new : NodeView) → b ≡ true → v.out_of_memory ≡ false → new ≡ view_behind_start v → IsSeen x sent v → IsSeen (round_if_left b x) sent new
unfolding round_if_left
seen-round_left true x sent v new left memory e h = let s = seen-start x sent v new memory e h in record { state = s.state; given = s.given }
seen-round_left false x sent v new left memory e h = absurd (cc)

pub round-none_left : (b : Bool) (x : Session) → b ≡ false → round_if_left b x ≡ x
unfolding round_if_left
round-none_left true x none = absurd (cc)
round-none_left false x none = refl

-- a node that has ended begins none
pub seen-round_ended : (b : Bool) (x : Session) (sent : List ℕ) (v : NodeView) (e : End) → x.state.ended ≡ Some e → IsSeen x sent v → IsSeen (round_if_left b x) sent v
unfolding round_if_left
seen-round_ended true x sent v e ended h =
    let same : (on_start x.state).turn ≡ unchanged x.state = ap (λ s. s.turn) (on_start-ended x.state e ended) in
    let s = subst (λ (t : Turn). IsSeen (session_after x t) sent v) (sym same) (seen-unchanged x sent v h) in
    record { state = s.state; given = s.given }
seen-round_ended false x sent v e ended h = h

-- how many were begun
pub begun-round_left : (b : Bool) (x : Session) → b ≡ true → (round_if_left b x).begun ≡ x.begun + count_of (on_start x.state).begun
unfolding round_if_left
begun-round_left true x left = refl
begun-round_left false x left = absurd (cc)

-- ---- what a start leaves

idle_waiting : is_idle (waiting_phase 0) ≡ false
unfolding is_idle waiting_phase
idle_waiting = refl

round-busy : (plain : Bool) (s : NodeState) → is_idle (round_by plain s).state.machine.phase ≡ false
unfolding round_by is_idle waiting_phase
round-busy false s = refl
round-busy true s = refl

start-busy_by : (e : Option End) (r : Role) (idle : Bool) (s : NodeState) → e ≡ None → is_opener r ≡ true → idle ≡ is_idle s.machine.phase → is_idle (on_start_by e r idle s).turn.state.machine.phase ≡ false
unfolding on_start_by is_opener
start-busy_by None role.Opener true s unended opener same = round-busy s.plain s
start-busy_by None role.Opener false s unended opener same = sym same
start-busy_by None role.Accepter idle s unended opener same = absurd (cc)
start-busy_by (Some e) r idle s unended opener same = absurd (cc)

-- an opener that goes on is busy once it was to begin a round
pub start-busy : (s : NodeState) → s.ended ≡ None → is_opener s.config.role ≡ true → is_idle (on_start s).turn.state.machine.phase ≡ false
start-busy s unended opener = start-busy_by s.ended s.config.role (is_idle s.machine.phase) s unended opener refl

round-ended : (plain : Bool) (s : NodeState) → (round_by plain s).state.ended ≡ s.ended
unfolding round_by
round-ended false s = refl
round-ended true s = refl

start-ended_by : (e : Option End) (r : Role) (idle : Bool) (s : NodeState) → (on_start_by e r idle s).turn.state.ended ≡ s.ended
unfolding on_start_by
start-ended_by None role.Opener true s = round-ended s.plain s
start-ended_by None role.Opener false s = refl
start-ended_by None role.Accepter idle s = refl
start-ended_by (Some e) r idle s = refl

-- it ends no node
pub start-ended : (s : NodeState) → (on_start s).turn.state.ended ≡ s.ended
start-ended s = start-ended_by s.ended s.config.role (is_idle s.machine.phase) s
