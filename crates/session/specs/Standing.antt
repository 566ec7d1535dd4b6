-- Where a session stands: between two pieces, behind a piece that its node hasn't taken, and at its end.
use Rattle.std.specs.Prelude.{◌≡◌, ◌≢◌, ⊤, ℕ, zero, suc, ◌+◌, ◌≤◌, Bool, true, false, not, ◌&&◌, if◌then◌else◌, List, [], ◌∷◌, ◌++◌, length, take, Some, None, Ok, Err}
use Rattle.std.specs.declared.option.Option.{Option}
use Rattle.std.specs.declared.result.Result.{Result}
use Rattle.link_rules.specs.Links.{Link, pieces_of, received_bytes}
use Rattle.node_rules.specs.Stages.{is_idle}
use Rattle.node_rules.specs.State.{NodeState, NodeView}
use Rattle.node_rules.specs.Memory.{view_behind_start}
use Rattle.node_rules.specs.Steps.{count_of, on_start}
use Rattle.node_rules.specs.declared.config.Role.{Role}
use Rattle.node_rules.specs.declared.config.Role.TheVariants as role
use Rattle.wire_rules.specs.declared.phase.Phase.{Phase}
use Rattle.session_rules.specs.Session.{AreInTime, IsAnsweredFor, Session, after_pieces, is_served}
use Rattle.session_rules.specs.declared.limits.TheConstants.{SESSION_LIMIT}
use Rattle.session_rules.specs.declared.session_end.SessionEnd.{SessionEnd}
use Rattle.session_rules.specs.declared.session_end.SessionEnd.TheVariants as session_end
use Rattle.session.specs.Sessions.{end_in, is_input_over}

unfoldable pub is_opener : Role → Bool
is_opener role.Opener = true
is_opener role.Accepter = false

-- ---- the link

-- the link of a session, where its wire tells one: what it told at first, and what it tells now
unfoldable pub IsLinkSince : Option Link → Option Link → Link → Type 0
IsLinkSince None told now = ⊤
IsLinkSince (Some old) told now = (told ≡ Some now) × (old.coming ≡ received_bytes now ++ now.coming) × (now.calls ≡ old.calls)

-- what the pieces of a link have made of a session
abbrev pub session_at : ℕ → Session → Link → Session
session_at rounds start link = after_pieces rounds start (pieces_of link)

-- ---- the node

-- a node that goes on stands where a session does: what was sent and what waits is what was given, so many rounds are left,
-- and an opener is between rounds only where none is
pub record IsAt (opens : Bool) (rounds left : ℕ) (x : Session) (sent : List ℕ) (v : NodeView) : Type 0 where
  pub state : v.state ≡ x.state
  pub given : sent ++ v.outbox ≡ x.given
  pub memory : v.out_of_memory ≡ false
  pub unended : v.state.ended ≡ None
  pub opener : opens ≡ is_opener v.state.config.role
  pub counted : x.begun + left ≡ rounds
  pub busy : opens ≡ true → is_idle v.state.machine.phase ≡ true → left ≡ 0

-- what the end of the input means for a node that isn't an opener at its end: it is done, or the input ended too early
abbrev pub end_of_input : Bool → NodeState → SessionEnd
end_of_input opens s = if not opens && (is_idle s.machine.phase && is_served s) then session_end.Done else session_end.Truncated s.machine.phase

-- ---- a session

-- a session that goes on, between two pieces, with what its wire told at first and tells now
pub record IsStanding (opens : Bool) (rounds : ℕ) (start : Session) (before told : Option Link) (ended : Bool) (v : NodeView) (left received : ℕ) : Type 0 where
  pub now : Link
  pub since : IsLinkSince before told now
  pub input : now.input_ended ≡ false
  pub going : ended ≡ false
  pub at : IsAt opens rounds left (session_at rounds start now) now.sent v
  pub in_time : AreInTime rounds start now.pieces
  pub counted : length (received_bytes now) ≡ received

-- behind a piece that its node hasn't taken, and before which all was sent
pub record IsBeforePiece (opens : Bool) (rounds : ℕ) (start : Session) (before told : Option Link) (ended : Bool) (v : NodeView) (left received : ℕ) (piece : List ℕ) : Type 0 where
  pub front : Link
  pub now : Link
  pub since : IsLinkSince before told now
  pub input : now.input_ended ≡ false
  pub going : ended ≡ false
  pub pieces : now.pieces ≡ front.pieces ++ record { bytes = piece; sent_before = length now.sent } ∷ []
  pub at : IsAt opens rounds left (session_at rounds start front) now.sent v
  pub all_sent : v.outbox ≡ []
  pub in_time : AreInTime rounds start now.pieces
  pub counted : length (received_bytes now) ≡ received
  pub most : received ≤ SESSION_LIMIT

-- what an answer leaves of the node, unless memory was refused
pub record IsLeft (rounds : ℕ) (start : Session) (now : Link) (v : NodeView) (answer : SessionEnd) : Type 0 where
  pub state : v.state ≡ (session_at rounds start now).state
  pub given : now.sent ++ v.outbox ≡ (session_at rounds start now).given
  pub memory : v.out_of_memory ≡ false
  pub cause : IsAnsweredFor answer rounds start now v

-- a session that is over, by its answer
pub record IsOver (opens : Bool) (rounds : ℕ) (start : Session) (before told : Option Link) (ended : Bool) (v : NodeView) (answer : SessionEnd) : Type 0 where
  pub now : Link
  pub since : IsLinkSince before told now
  pub input : now.input_ended ≡ ended
  pub in_time : AreInTime rounds start now.pieces
  pub most : length (received_bytes now) ≤ SESSION_LIMIT
  pub left : answer ≢ session_end.OutOfMemory → IsLeft rounds start now v answer
  pub end : v.state.ended ≡ end_in answer
  pub opener : opens ≡ is_opener v.state.config.role
  pub input_by : ended ≡ is_input_over v.state.config.role answer
  pub busy : (p : Phase) → answer ≡ session_end.Truncated p → opens ≡ true → is_idle p ≡ false

-- a turn of a session: it goes on, or it is over
unfoldable pub IsTurn : Bool → ℕ → Session → Option Link → Option Link → Bool → NodeView → ℕ → ℕ → Result Unit SessionEnd → Type 0
IsTurn opens rounds start before told ended v left received (Ok done) = IsStanding opens rounds start before told ended v left received
IsTurn opens rounds start before told ended v left received (Err answer) = IsOver opens rounds start before told ended v answer

-- a round begins where one is left and may begin, and is left no more. Where memory runs out, nothing changes
unfoldable pub IsRoundBegun : {E : Type 0} → NodeView → ℕ → NodeView → ℕ → Result Unit E → Type 0
IsRoundBegun old zero new left (Ok done) = (new ≡ old) × (left ≡ 0)
IsRoundBegun old (suc k) new left (Ok done) = (new ≡ view_behind_start old) × (left + count_of (on_start old.state).begun ≡ suc k)
IsRoundBegun old some new left (Err e) = new ≡ old

-- ---- what the parts of a turn leave

-- an opener isn't done where rounds are left, or where it is in one; an accepter never is before the input has ended
abbrev pub IsUnfinished : Bool → ℕ → NodeView → Type 0
IsUnfinished opens left v = opens ≡ true → left ≡ 0 → is_idle v.state.machine.phase ≡ false

-- a session that stood between two pieces stands there still: bytes were sent, or none
abbrev pub StandsThen : Option Link → Bool → NodeView → Option Link → Bool → NodeView → Type 0
StandsThen told ended old after over new = (opens : Bool) (rounds : ℕ) (start : Session) (before : Option Link) (left received : ℕ)
    → IsStanding opens rounds start before told ended old left received → IsStanding opens rounds start before after over new left received

-- a piece was received, of n bytes, or the session is over
unfoldable pub IsReceipt : Bool → ℕ → Session → Option Link → Option Link → Bool → NodeView → ℕ → ℕ → List ℕ → Result ℕ SessionEnd → Type 0
IsReceipt opens rounds start before told ended v left received buffer (Ok n) = IsBeforePiece opens rounds start before told ended v left received (take n buffer)
IsReceipt opens rounds start before told ended v left received buffer (Err answer) = IsOver opens rounds start before told ended v answer
