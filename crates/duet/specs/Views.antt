-- Two nodes and what is on the way between them, as a world.
use Rattle.std.specs.Prelude.{◌≡◌, ℕ, Bool, true, false, List}
use Rattle.wire_rules.specs.Layout.{wire_bytes}
use Rattle.pool_rules.specs.Pools.{Transaction}
use Rattle.node_rules.specs.Handshake.{opening_messages}
use Rattle.node_rules.specs.State.{NodeView, opening_state}
use Rattle.node_rules.specs.declared.config.Config.{Config}
use Rattle.pair_rules.specs.World.{World, ArePair, IsScript, opening_world, run}
use Rattle.pair_rules.specs.declared.event.Event.{Event}

-- a world, how many additions found no room, and whether memory was refused
pub record PairView : Type 0 where
  pub world : World
  pub full : ℕ
  pub out_of_memory : Bool

-- what a node has to send is on the way to the other
abbrev pub world_of : NodeView → NodeView → World
world_of a b = record { a = a.state; b = b.state; ab = a.outbox; ba = b.outbox }

-- ---- how a pair begins

-- a new node, and what it has to send
abbrev pub new_node : Config → List Transaction → NodeView
new_node c pool = record { state = opening_state c pool; outbox = wire_bytes c.magic (opening_messages c); out_of_memory = false }

-- two new nodes of one network in opposite roles, with their configurations and pools
pub record AreNewOf (c d : Config) (p q : List Transaction) (a b : NodeView) : Type 0 where
  pub pair : ArePair c d p q
  pub node_a : a ≡ new_node c p
  pub node_b : b ≡ new_node d q

pub record AreNew (a b : NodeView) : Type 0 where
  pub c : Config
  pub d : Config
  pub p : List Transaction
  pub q : List Transaction
  pub of : AreNewOf c d p q a b

-- ---- which worlds a pair comes to

-- two new nodes of one network in opposite roles have come to this world, and to this count, by this script
pub record IsReachedBy (c d : Config) (p q : List Transaction) (script : List Event) (world : World) (full : ℕ) : Type 0 where
  pub pair : ArePair c d p q
  pub is_script : IsScript script
  pub world_is : world ≡ (run (opening_world c d p q) script).world
  pub full_is : full ≡ (run (opening_world c d p q) script).full

pub record IsReached (world : World) (full : ℕ) : Type 0 where
  pub c : Config
  pub d : Config
  pub p : List Transaction
  pub q : List Transaction
  pub script : List Event
  pub by : IsReachedBy c d p q script world full

-- until memory is refused neither node has seen it refused, and the world is one that two new nodes come to
unfoldable pub IsPairOf : Bool → NodeView → NodeView → ℕ → Type 0
IsPairOf true a b full = Unit {0}
IsPairOf false a b full = (a.out_of_memory ≡ false) × (b.out_of_memory ≡ false) × IsReached (world_of a b) full
