-- What a step leaves: a state, and the messages that are sent.
use Rattle.std.specs.Prelude.{List, [], ◌∷◌, ◌++◌, map, Some, Ok, Err}
use Rattle.std.specs.declared.result.Result.{Result}
use Rattle.base_types.specs.declared.lists.Hash32.{Hash32}
use Rattle.wire_rules.specs.Layout.{wire_bytes}
use Rattle.wire_rules.specs.declared.message.InvEntry.{InvEntry}
use Rattle.wire_rules.specs.declared.message.Message.{Message}
use Rattle.wire_rules.specs.declared.message.Message.TheVariants as message
use Rattle.wire_rules.specs.declared.name.Name.{Name}
use Rattle.pool_rules.specs.Snapshots.{Member}
use Rattle.node_rules.specs.State.{Machine, Initiator, NodeState, NodeView}
use Rattle.node_rules.specs.declared.end.End.{End}
use Rattle.node_rules.specs.declared.end.End.TheVariants as end

-- a step of an opener's machine of rounds, which may take the set
pub record Move : Type 0 where
  pub initiator : Initiator
  pub set : List Member
  pub out : List Message

-- a step of a machine of rounds that leaves the rest of its side as it is
pub record Response : Type 0 where
  pub machine : Machine
  pub out : List Message

-- a step of a node
pub record Turn : Type 0 where
  pub state : NodeState
  pub out : List Message

-- nothing changes and nothing is sent
abbrev pub unchanged : NodeState → Turn
unchanged s = record { state = s; out = [] }

-- nothing changes, and messages are sent
abbrev pub turn_with : NodeState → List Message → Turn
turn_with s ms = record { state = s; out = ms }

-- the node ends, and nothing else changes
abbrev pub refusal : NodeState → End → Turn
refusal s e = record { state = record s { ended = Some e }; out = [] }

-- a message doesn't belong in the handshake, or behind it
abbrev pub handshake_refusal : NodeState → Name → Turn
handshake_refusal s n = refusal s (end.Handshake n)

-- a message doesn't belong in the phase
abbrev pub phase_refusal : NodeState → Name → Turn
phase_refusal s n = refusal s (end.Misplaced n s.machine.phase)

-- an opener as its machine has moved
abbrev pub after_move : NodeState → Result Move End → Turn
after_move s (Ok m) = record { state = record s { machine = m.initiator.machine; requests = m.initiator.requests; set = m.set }; out = m.out }
after_move s (Err e) = refusal s e

-- an accepter as its machine has responded, and what is left of its set
abbrev pub after_response : NodeState → List Member → Result Response End → Turn
after_response s set (Ok r) = record { state = record s { machine = r.machine; set = set }; out = r.out }
after_response s set (Err e) = refusal s e

-- a caller's view behind a step: the frames of its messages go to the end of the outbox
abbrev pub after_turn : NodeView → Turn → NodeView
after_turn v t = record v { state = t.state; outbox = v.outbox ++ wire_bytes t.state.config.magic t.out }

-- ---- inventories

-- a transaction named by its wtxid (BIP 339)
abbrev pub entry : Hash32 → InvEntry
entry id = record { kind = 5; id = id }

-- an announcement of ids; of none it isn't sent
abbrev pub inv_of : List Hash32 → List Message
inv_of [] = []
inv_of (id ∷ ids) = message.Inv (map entry (id ∷ ids)) ∷ []

-- a request for ids; for none it isn't sent
abbrev pub getdata_of : List Hash32 → List Message
getdata_of [] = []
getdata_of (id ∷ ids) = message.GetData (map entry (id ∷ ids)) ∷ []

-- entries that can't be served; where there are none, it isn't sent
abbrev pub notfound_of : List InvEntry → List Message
notfound_of [] = []
notfound_of (e ∷ es) = message.NotFound (e ∷ es) ∷ []
