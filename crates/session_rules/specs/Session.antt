-- A node over a wire: the pieces received fix its steps, and what it has given to be sent.
use Rattle.std.specs.Prelude.{◌≡◌, ℕ, ◌+◌, ◌<◌, ◌≤◌, ◌==◌, ◌&&◌, nat_lt, nat_le, is_none, Bool, true, false, List, [], ◌∷◌, ◌++◌, length, Some, None}
use Rattle.std.specs.List.{AllByRecursion}
use Rattle.wire_rules.specs.Layout.{wire_bytes}
use Rattle.wire_rules.specs.declared.phase.Phase.{Phase}
use Rattle.link_rules.specs.Links.{Link, Piece, bytes_of_pieces, pieces_of, received_bytes}
use Rattle.pool_rules.specs.Pools.{Transaction}
use Rattle.node_rules.specs.Handshake.{opening_messages}
use Rattle.node_rules.specs.Stages.{is_idle}
use Rattle.node_rules.specs.State.{NodeState, NodeView, open_wants, opening_state}
use Rattle.node_rules.specs.Steps.{count_of, on_piece, on_start}
use Rattle.node_rules.specs.Turns.{Turn}
use Rattle.node_rules.specs.declared.config.Config.{Config}
use Rattle.node_rules.specs.declared.config.Role.{Role}
use Rattle.node_rules.specs.declared.config.Role.TheVariants as role
use Rattle.node_rules.specs.declared.end.End.{End}
use Rattle.session_rules.specs.declared.limits.TheConstants.{PIECE_LIMIT, SESSION_LIMIT}
use Rattle.session_rules.specs.declared.session_end.SessionEnd.{SessionEnd}
use Rattle.session_rules.specs.declared.session_end.SessionEnd.TheVariants as session_end

-- a node, how many rounds it has begun in this session, and all bytes that it has given to be sent
pub record Session : Type 0 where
  pub state : NodeState
  pub begun : ℕ
  pub given : List ℕ

-- a new node's session
abbrev pub session_start : NodeState → Session
session_start s = record { state = s; begun = 0; given = wire_bytes s.config.magic (opening_messages s.config) }

abbrev pub session_after : Session → Turn → Session
session_after x t = record x { state = t.state; given = x.given ++ wire_bytes t.state.config.magic t.out }

-- a round is begun, by whether one is left; where it may not begin, nothing happens
unfoldable pub round_if_left : Bool → Session → Session
round_if_left true x = record (session_after x (on_start x.state).turn) { begun = x.begun + count_of (on_start x.state).begun }
round_if_left false x = x

-- one piece, and then a round, where one of so many is left
abbrev pub session_with_round : ℕ → Session → Session
session_with_round rounds x = round_if_left (nat_lt x.begun rounds) x

abbrev pub after_piece : ℕ → Session → List ℕ → Session
after_piece rounds x piece = session_with_round rounds (session_after x (on_piece x.state piece))

unfoldable pub after_pieces : ℕ → Session → List (List ℕ) → Session
after_pieces rounds x [] = x
after_pieces rounds x (piece ∷ more) = after_pieces rounds (after_piece rounds x piece) more

-- ---- when a session is done

-- between rounds, and not ended
abbrev pub is_resting : NodeState → Bool
is_resting s = is_idle s.machine.phase && is_none s.ended

-- nothing is unread, and nothing is wanted
abbrev pub is_served : NodeState → Bool
is_served s = (length s.inbox.unread == 0) && (length (open_wants s) == 0)

-- an opener rests and has no round left
abbrev pub is_opener_done : ℕ → Session → Bool
is_opener_done rounds x = is_resting x.state && nat_le rounds x.begun

-- by the role, and by whether the wire's input has ended. An opener is done once all that it gave was sent too; an accepter
-- once the input has ended and it rests, with nothing unread and no open wants
unfoldable pub is_done_by : Role → Bool → ℕ → Session → Bool
is_done_by role.Opener input_over rounds x = is_opener_done rounds x
is_done_by role.Accepter input_over rounds x = input_over && is_resting x.state && is_served x.state

abbrev pub is_done : Bool → ℕ → Session → Bool
is_done input_over rounds x = is_done_by x.state.config.role input_over rounds x

-- ---- what a wire tells of a session

-- before each piece all that was given by then had been sent, the node hadn't ended, and it wasn't done. A piece has at least
-- one byte, and no more than a piece may have
pub record IsInTime (rounds : ℕ) (x : Session) (p : Piece) : Type 0 where
  pub sent : p.sent_before ≡ length x.given
  pub unended : x.state.ended ≡ None
  pub undone : is_done false rounds x ≡ false
  pub least : 0 < length p.bytes
  pub most : length p.bytes ≤ PIECE_LIMIT

unfoldable pub AreInTime : ℕ → Session → List Piece → Type 0
AreInTime rounds x [] = Unit {0}
AreInTime rounds x (p ∷ ps) = IsInTime rounds x p × AreInTime rounds (after_piece rounds x p.bytes) ps

-- ---- the answer of a session

-- an opener has begun just so many rounds, and all was sent
pub record IsDone (rounds : ℕ) (x : Session) (link : Link) (last : NodeView) : Type 0 where
  pub done : is_done link.input_ended rounds x ≡ true
  pub begun : x.state.config.role ≡ role.Opener → x.begun ≡ rounds
  pub sent : last.outbox ≡ []

-- the node ended in the last piece, and nothing was sent behind it
pub record IsRefused (rounds : ℕ) (start : Session) (link : Link) (last : NodeView) (e : End) : Type 0 where
  pub ended : last.state.ended ≡ Some e
  pub front : List Piece
  pub refused : Piece
  pub pieces : link.pieces ≡ front ++ refused ∷ []
  pub sent : link.sent ≡ (after_pieces rounds start (bytes_of_pieces front)).given

-- the node hasn't ended and isn't done, and all that it gave was sent
pub record IsUndone (rounds : ℕ) (x : Session) (link : Link) (last : NodeView) : Type 0 where
  pub unended : last.state.ended ≡ None
  pub undone : is_done link.input_ended rounds x ≡ false
  pub sent : last.outbox ≡ []

-- the input ended too early, in this phase
pub record IsTruncated (rounds : ℕ) (x : Session) (link : Link) (last : NodeView) (p : Phase) : Type 0 where
  pub undone : IsUndone rounds x link last
  pub input : link.input_ended ≡ true
  pub phase : last.state.machine.phase ≡ p
  pub below : length (received_bytes link) < SESSION_LIMIT

-- as much was received as may be
pub record IsLimited (rounds : ℕ) (x : Session) (link : Link) (last : NodeView) : Type 0 where
  pub undone : IsUndone rounds x link last
  pub input : link.input_ended ≡ false
  pub received : length (received_bytes link) ≡ SESSION_LIMIT

-- why a session answers so. That a call of the wire failed is told by its count of faults alone
unfoldable pub IsAnsweredFor : SessionEnd → ℕ → Session → Link → NodeView → Type 0
IsAnsweredFor session_end.Done rounds start link last = IsDone rounds (after_pieces rounds start (pieces_of link)) link last
IsAnsweredFor (session_end.Refused e) rounds start link last = IsRefused rounds start link last e
IsAnsweredFor (session_end.Truncated p) rounds start link last = IsTruncated rounds (after_pieces rounds start (pieces_of link)) link last p
IsAnsweredFor session_end.SessionLimit rounds start link last = IsLimited rounds (after_pieces rounds start (pieces_of link)) link last
IsAnsweredFor session_end.LinkFault rounds start link last = Unit {0}
IsAnsweredFor session_end.OutOfMemory rounds start link last = Unit {0}

-- over a link, from a new node to a last one: the pieces fix the steps, what was sent and what the outbox still holds is
-- what these steps gave, in time, no other link was asked for, and the answer has its cause
pub record IsSession (rounds : ℕ) (c : Config) (pool : List Transaction) (old new : Link) (last : NodeView) (answer : SessionEnd) : Type 0 where
  pub state : last.state ≡ (after_pieces rounds (session_start (opening_state c pool)) (pieces_of new)).state
  pub given : new.sent ++ last.outbox ≡ (after_pieces rounds (session_start (opening_state c pool)) (pieces_of new)).given
  pub in_time : AreInTime rounds (session_start (opening_state c pool)) new.pieces
  pub received : old.coming ≡ received_bytes new ++ new.coming
  pub most : length (received_bytes new) ≤ SESSION_LIMIT
  pub calls : new.calls ≡ old.calls
  pub cause : IsAnsweredFor answer rounds (session_start (opening_state c pool)) new last
