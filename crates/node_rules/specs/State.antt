-- The state of a node.
use Rattle.std.specs.Prelude.{◌≡◌, ℕ, ◌+◌, ◌^◌, ◌<◌, ◌≤◌, not, Bool, false, IsTrue, List, [], ◌++◌, length, filter, Some, None}
use Rattle.std.specs.List.{AllByRecursion}
use Rattle.std.specs.declared.option.Option.{Option}
use Rattle.base_types.specs.declared.lists.Hash32.{Hash32}
use Rattle.id_rules.specs.Bytes.{are_bytes, are_bytes_of, fits_signed}
use Rattle.id_rules.specs.Ids.{KeyPair, keys_of}
use Rattle.wire_rules.specs.declared.phase.Phase.{Phase}
use Rattle.wire_rules.specs.declared.phase.Phase.TheVariants as phase
use Rattle.pool_rules.specs.Pools.{Transaction, AreDistinctIds, IsPool, is_in_pool}
use Rattle.pool_rules.specs.Snapshots.{Member, member_of, IsSet}
use Rattle.pool_rules.specs.declared.limits.TheConstants.{POOL_LIMIT, FIRST_COEFFICIENT}
use Rattle.pool_rules.specs.declared.report.Report.{Report}
use Rattle.node_rules.specs.declared.config.Config.{Config}
use Rattle.node_rules.specs.declared.end.End.{End}

-- a round under way: what was taken from the set, the capacity of the first sketch, and the sums that the peer has sent of
-- its own, which are an opener's alone
pub record Round : Type 0 where
  pub snapshot : List Member
  pub capacity : ℕ
  pub sums : List ℕ

abbrev pub no_round : Round
no_round = record { snapshot = []; capacity = 0; sums = [] }

-- what a side's machine of rounds keeps, and an accepter's no more. The level of the connection is how many extensions of a
-- sketch may be asked for; before the handshake is over it is 1
pub record Machine : Type 0 where
  pub phase : Phase
  pub level : ℕ
  pub round : Round
  pub reports : List Report

-- what an opener keeps of the rounds that it asks for: the coefficient of the next one, and how many were begun, modulo
-- 2 ^ 64. An accepter asks for none, so there they stay as they were at the beginning
pub record Requests : Type 0 where
  pub coefficient : ℕ
  pub begun : ℕ

-- an opener's machine of rounds
pub record Initiator : Type 0 where
  pub machine : Machine
  pub requests : Requests

-- how many extensions of a sketch may be asked for
abbrev pub extensions_allowed : Machine → ℕ
extensions_allowed m = m.level

-- ids that the peer announced and that aren't asked for yet; ids asked for; ids whose transaction was sent
pub record Wants : Type 0 where
  pub wanted : List Hash32
  pub asked : List Hash32
  pub served : List Hash32

-- what a `sendtxrcncl` says: the version of reconciliation, and the salt
pub record Offer : Type 0 where
  pub version : ℕ
  pub salt : ℕ

-- what was noted of the peer
pub record Peer : Type 0 where
  pub relays_by_id : Bool
  pub offer : Option Offer

-- bytes received of which no message is whole, and the offset of the first of them in the stream
pub record Inbox : Type 0 where
  pub unread : List ℕ
  pub offset : ℕ

-- the set has the members that the peer isn't known to have and that no round has taken. A node is plain where the peer
-- reconciles nothing
pub record NodeState : Type 0 where
  pub config : Config
  pub machine : Machine
  pub requests : Requests
  pub set : List Member
  pub pool : List Transaction
  pub wants : Wants
  pub peer : Peer
  pub plain : Bool
  pub inbox : Inbox
  pub ended : Option End

-- a node as its caller sees it: its state, the bytes that are to be sent, and whether it ran out of memory
pub record NodeView : Type 0 where
  pub state : NodeState
  pub outbox : List ℕ
  pub out_of_memory : Bool

-- nothing was wanted, asked for or served
abbrev pub no_wants : Wants
no_wants = record { wanted = []; asked = []; served = [] }

-- nothing was noted of the peer
abbrev pub no_peer : Peer
no_peer = record { relays_by_id = false; offer = None }

abbrev pub first_requests : Requests
first_requests = record { coefficient = FIRST_COEFFICIENT; begun = 0 }

-- a new node
abbrev pub opening_state : Config → List Transaction → NodeState
opening_state config pool = record {
  config = config;
  machine = record { phase = phase.Greeting; level = 1; round = no_round; reports = [] };
  requests = first_requests;
  set = [];
  pool = pool;
  wants = no_wants;
  peer = no_peer;
  plain = false;
  inbox = record { unread = []; offset = 0 };
  ended = None;
}

-- the opener's machine of a node
abbrev pub initiator_of : NodeState → Initiator
initiator_of s = record { machine = s.machine; requests = s.requests }

-- the peer's salt, where it was noted
abbrev pub salt_of : Option Offer → ℕ
salt_of (Some offer) = offer.salt
salt_of None = 0

-- the key of both salts. It is used only where the peer's was noted
abbrev pub node_keys : NodeState → KeyPair
node_keys s = keys_of s.config.salt (salt_of s.peer.offer)

-- the ids that the peer announced and that haven't come
abbrev pub open_wants : NodeState → List Hash32
open_wants s = s.wants.wanted ++ s.wants.asked

-- those of them that the pool lacks
abbrev pub missing_wants : NodeState → List Hash32
missing_wants s = filter (λ id. not (is_in_pool s.pool id)) (open_wants s)

-- how much of the pool's limit is taken: its transactions, and the open wants that it lacks
abbrev pub taken_room : NodeState → ℕ
taken_room s = length s.pool + length (missing_wants s)
