-- What a conversation is in the words of the definitions: a node that has received no bytes, and hasn't ended.
use Rattle.std.specs.Prelude.{◌≡◌, ℕ, is_none, Bool, true, false, List, [], None, option_map}
use Rattle.std.specs.declared.option.Option.{Option}
use Rattle.wire_rules.specs.declared.phase.Phase.TheVariants as phase
use Rattle.wire_rules.specs.declared.phase.Phase.{Phase}
use Rattle.pool_rules.specs.Snapshots.{Member}
use Rattle.node_rules.specs.Stages.{is_after_handshake}
use Rattle.node_rules.specs.State.{Inbox, Machine, NodeState, NodeView, Offer, Peer, Requests, first_requests, no_round}
use Rattle.node_rules.specs.declared.config.Config.{Config}
use Rattle.node_rules.specs.declared.config.Role.{Role}
use Rattle.node_rules.specs.declared.config.Role.TheVariants as role
use Rattle.relay_store.specs.Holdings.{Holdings}
use Rattle.conversation.specs.declared.stage.Stage.{Stage}
use Rattle.conversation.specs.declared.stage.Stage.TheVariants as stage
use Rattle.conversation.specs.declared.peer as declared

-- before the handshake is over no round was begun
abbrev pub machine_before : Phase → Machine
machine_before p = record { phase = p; level = 1; round = no_round; reports = [] }

abbrev pub machine_at : Stage → Machine
machine_at stage.Greeting = machine_before phase.Greeting
machine_at stage.Greeted = machine_before phase.Greeted
machine_at (stage.Opener i) = i.machine
machine_at (stage.Accepter r) = r

abbrev pub requests_at : Stage → Requests
requests_at (stage.Opener i) = i.requests
requests_at other = first_requests

-- behind the handshake a node is plain where no offer came
abbrev pub is_plain_at : Stage → Option Offer → Bool
is_plain_at (stage.Opener i) offer = is_none offer
is_plain_at (stage.Accepter r) offer = is_none offer
is_plain_at other offer = false

-- a machine is of the role, and behind the handshake
unfoldable pub IsStageOf : Role → Stage → Type 0
IsStageOf role.Opener (stage.Opener i) = is_after_handshake i.machine.phase ≡ true
IsStageOf role.Accepter (stage.Accepter r) = is_after_handshake r.phase ≡ true
IsStageOf role.Opener (stage.Accepter r) = ⊥
IsStageOf role.Accepter (stage.Opener i) = ⊥
IsStageOf role other = Unit {0}

abbrev pub offer_of : declared.Offer.Offer → Offer
offer_of o = record { version = o.version; salt = o.salt }

abbrev pub peer_of : declared.Peer.Peer → Peer
peer_of p = record { relays_by_id = p.relays_by_id; offer = option_map offer_of p.offer }

-- no byte was received
abbrev pub no_inbox : Inbox
no_inbox = record { unread = []; offset = 0 }

abbrev pub state_of : Config → Stage → List Member → Holdings → Peer → NodeState
state_of config at set held peer = record {
  config = config;
  machine = machine_at at;
  requests = requests_at at;
  set = set;
  pool = held.pool;
  wants = held.wants;
  peer = peer;
  plain = is_plain_at at peer.offer;
  inbox = no_inbox;
  ended = None;
}

abbrev pub view_of : NodeState → List ℕ → NodeView
view_of s outbox = record { state = s; outbox = outbox; out_of_memory = false }
