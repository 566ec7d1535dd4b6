-- The steps of a node: a message, a piece of bytes, the start of a round.
use Rattle.std.specs.Prelude.{ℕ, zero, suc, Bool, true, false, List, [], ◌∷◌, ◌++◌, length, drop, Some, None, Ok, Err}
use Rattle.std.specs.declared.option.Option.{Option}
use Rattle.std.specs.declared.result.Result.{Result}
use Rattle.wire_rules.specs.Reading.{message_of}
use Rattle.wire_rules.specs.Stream.{Front, PartialFrame, WholeFrame, FaultyFrame, front_of, later_offset}
use Rattle.wire_rules.specs.declared.faults.PayloadFault.{PayloadFault}
use Rattle.wire_rules.specs.declared.message.Message.{Message}
use Rattle.wire_rules.specs.declared.message.Message.TheVariants as message
use Rattle.wire_rules.specs.declared.name.Name.{Name}
use Rattle.wire_rules.specs.declared.name.Name.TheVariants as name
use Rattle.wire_rules.specs.declared.phase.Phase.{Phase}
use Rattle.wire_rules.specs.declared.phase.Phase.TheVariants as phase
use Rattle.pool_rules.specs.Snapshots.{Member}
use Rattle.node_rules.specs.Stages.{is_idle}
use Rattle.node_rules.specs.State.{Inbox, Initiator, NodeState, initiator_of}
use Rattle.node_rules.specs.Turns.{Move, Response, Turn, unchanged, turn_with, refusal, handshake_refusal, phase_refusal, after_move, after_response}
use Rattle.node_rules.specs.Opener.{Start, round_start, plain_start, opener_sketch}
use Rattle.node_rules.specs.Barrier.{on_pong}
use Rattle.node_rules.specs.Accepter.{accepter_reqrecon, accepter_extension, accepter_diff}
use Rattle.node_rules.specs.Inventory.{on_inv, on_getdata, on_tx, on_notfound}
use Rattle.node_rules.specs.Handshake.{in_greeting, in_greeted}
use Rattle.node_rules.specs.declared.config.Role.{Role}
use Rattle.node_rules.specs.declared.config.Role.TheVariants as role
use Rattle.node_rules.specs.declared.end.End.{End}
use Rattle.node_rules.specs.declared.end.End.TheVariants as end

-- ---- one message, behind the handshake

-- a row of the opener's machine: by the role, and whether the node is plain
unfoldable pub opener_row : Role → Bool → Name → NodeState → Result Move End → Turn
opener_row role.Opener false n s row = after_move s row
opener_row role.Opener true n s row = phase_refusal s n
opener_row role.Accepter plain n s row = phase_refusal s n

-- a row of the accepter's machine, and what is then left of the set
unfoldable pub accepter_row : Role → Bool → Name → NodeState → List Member → Result Response End → Turn
accepter_row role.Accepter false n s set row = after_response s set row
accepter_row role.Accepter true n s set row = phase_refusal s n
accepter_row role.Opener plain n s set row = phase_refusal s n

unfoldable pub in_relay : NodeState → Message → Turn
in_relay s (message.Version v) = handshake_refusal s name.Version
in_relay s message.Verack = handshake_refusal s name.Verack
in_relay s message.WtxidRelay = handshake_refusal s name.WtxidRelay
in_relay s (message.SendTxRcncl version salt) = handshake_refusal s name.SendTxRcncl
in_relay s (message.ReqRecon size q) = accepter_row s.config.role s.plain name.ReqRecon s [] (accepter_reqrecon s.machine s.set size q)
in_relay s (message.Sketch bytes) = opener_row s.config.role s.plain name.Sketch s (opener_sketch (initiator_of s) s.set bytes)
in_relay s message.ReqSketchExt = accepter_row s.config.role s.plain name.ReqSketchExt s s.set (accepter_extension s.machine)
in_relay s (message.ReconcilDiff success asks) = accepter_row s.config.role s.plain name.ReconcilDiff s s.set (accepter_diff s.machine success asks)
in_relay s (message.Inv es) = on_inv s es
in_relay s (message.GetData es) = on_getdata s es
in_relay s (message.NotFound es) = on_notfound s es
in_relay s (message.Tx tx) = on_tx s tx
in_relay s (message.Ping n) = turn_with s (message.Pong n ∷ [])
in_relay s (message.Pong n) = on_pong s n
in_relay s (message.Other command payload) = unchanged s

unfoldable pub in_phase : Phase → NodeState → Message → Turn
in_phase phase.Greeting s m = in_greeting s m
in_phase phase.Greeted s m = in_greeted s m
in_phase other s m = in_relay s m

-- a node that has not ended takes one message
abbrev pub on_message : NodeState → Message → Turn
on_message s m = in_phase s.machine.phase s m

-- ---- a piece of bytes

abbrev pub with_inbox : NodeState → Inbox → NodeState
with_inbox s i = record s { inbox = i }

-- a frame of this size is no longer unread
abbrev pub after_frame : NodeState → ℕ → NodeState
after_frame s size = with_inbox s (record { unread = drop size s.inbox.unread; offset = later_offset s.inbox.offset size })

-- two steps in a row
abbrev pub turn_sequence : Turn → Turn → Turn
turn_sequence first second = record { state = second.state; out = first.out ++ second.out }

-- goes on behind a step, where the node hasn't ended in it
unfoldable pub next_unless_ended : Option End → Turn → (NodeState → Turn) → Turn
next_unless_ended (Some e) t next = t
next_unless_ended None t next = turn_sequence t (next t.state)

-- messages in a row, up to the node's end
unfoldable pub on_messages : NodeState → List Message → Turn
on_messages s [] = unchanged s
on_messages s (m ∷ ms) = next_unless_ended (on_message s m).state.ended (on_message s m) (λ next. on_messages next ms)

unfoldable pub at_message : Result Message PayloadFault → NodeState → (NodeState → Turn) → Turn
at_message (Ok m) s next = next_unless_ended (on_message s m).state.ended (on_message s m) next
at_message (Err f) s next = refusal s (end.Payload f)

unfoldable pub at_front : Front → NodeState → (NodeState → Turn) → Turn
at_front PartialFrame s next = unchanged s
at_front (FaultyFrame f) s next = refusal s (end.Frame f)
at_front (WholeFrame frame size) s next = at_message (message_of frame) (after_frame s size) next

-- at most n messages that stand whole in the unread bytes
unfoldable pub on_frames : ℕ → NodeState → Turn
on_frames zero s = unchanged s
on_frames (suc n) s = at_front (front_of s.config.magic s.inbox.offset s.inbox.unread) s (on_frames n)

-- the unread bytes of a node that ended are dropped
unfoldable pub without_unread_by : Option End → Turn → Turn
without_unread_by (Some e) t = record t { state = with_inbox t.state (record t.state.inbox { unread = [] }) }
without_unread_by None t = t

abbrev pub with_piece : NodeState → List ℕ → NodeState
with_piece s piece = with_inbox s (record s.inbox { unread = s.inbox.unread ++ piece })

-- every message that stands whole. A frame has at least one byte, so there are no more of them than bytes
abbrev pub on_unread : NodeState → Turn
on_unread s = on_frames (length s.inbox.unread) s

abbrev pub without_unread_if_ended : Turn → Turn
without_unread_if_ended t = without_unread_by t.state.ended t

unfoldable pub on_piece_by : Option End → NodeState → List ℕ → Turn
on_piece_by (Some e) s piece = unchanged s
on_piece_by None s piece = without_unread_if_ended (on_unread (with_piece s piece))

-- a piece of the peer's stream. A node that has ended takes none
abbrev pub on_piece : NodeState → List ℕ → Turn
on_piece s piece = on_piece_by s.ended s piece

-- ---- the start of a round

pub record StartTurn : Type 0 where
  pub begun : Bool
  pub turn : Turn

abbrev pub after_start : NodeState → Start → Turn
after_start s x = record { state = record s { machine = x.initiator.machine; requests = x.initiator.requests }; out = x.message ∷ [] }

-- a round begins, by whether the node is plain: then there is no more than its ping
unfoldable pub round_by : Bool → NodeState → Turn
round_by false s = after_start s (round_start (initiator_of s) (length s.set))
round_by true s = after_start s (plain_start (initiator_of s))

-- by the end, the role, and whether no round is under way
unfoldable pub on_start_by : Option End → Role → Bool → NodeState → StartTurn
on_start_by None role.Opener true s = record { begun = true; turn = round_by s.plain s }
on_start_by None role.Opener false s = record { begun = false; turn = unchanged s }
on_start_by None role.Accepter idle s = record { begun = false; turn = unchanged s }
on_start_by (Some e) role idle s = record { begun = false; turn = unchanged s }

unfoldable pub count_of : Bool → ℕ
count_of true = 1
count_of false = 0

-- an opener between rounds begins one
abbrev pub on_start : NodeState → StartTurn
on_start s = on_start_by s.ended s.config.role (is_idle s.machine.phase) s
