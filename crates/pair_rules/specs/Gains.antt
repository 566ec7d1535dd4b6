-- Where what the pools of two nodes gain comes from.
use Rattle.std.specs.Prelude.{◌≡◌, ◌⊎◌, List, [], ◌∷◌, ◌++◌, flat_map}
use Rattle.std.specs.List.{Contains, AllByRecursion}
use Rattle.pool_rules.specs.Pools.{Transaction, transaction_of}
use Rattle.node_rules.specs.declared.config.Config.{Config}
use Rattle.pair_rules.specs.World.{World, ArePair, IsScript, opening_world, run}
use Rattle.pair_rules.specs.declared.event.Event.{Event}
use Rattle.pair_rules.specs.declared.event.Event.TheVariants as event

-- the transactions that a script adds to a, and those to b
unfoldable pub addition_to_a : Event → List Transaction
addition_to_a (event.AddA tx) = transaction_of tx ∷ []
addition_to_a other = []

unfoldable pub addition_to_b : Event → List Transaction
addition_to_b (event.AddB tx) = transaction_of tx ∷ []
addition_to_b other = []

abbrev pub additions_to_a : List Event → List Transaction
additions_to_a script = flat_map addition_to_a script

abbrev pub additions_to_b : List Event → List Transaction
additions_to_b script = flat_map addition_to_b script

-- a pool is what it was and then what it has gained: each of it was added, or is in the other pool, id and bytes
pub record HasGainedOnly (old new added other : List Transaction) : Type 0 where
  pub gained : List Transaction
  pub grown : new ≡ old ++ gained
  pub each : AllByRecursion (λ t. Contains added t ⊎ Contains other t) gained

pub record HaveGainedOnly (old : World) (script : List Event) (new : World) : Type 0 where
  pub a : HasGainedOnly old.a.pool new.a.pool (additions_to_a script) new.b.pool
  pub b : HasGainedOnly old.b.pool new.b.pool (additions_to_b script) new.a.pool

-- over every run, also one in which a node ends, each transaction that a pool gained was added to that node by the script, or
-- is in the other node's pool. The run may begin in each world that two new nodes come to
abbrev pub PoolsGainWhatIsAddedOrShared : Type 0
PoolsGainWhatIsAddedOrShared =
    (c d : Config) (p q : List Transaction) (earlier script : List Event) → ArePair c d p q → IsScript earlier → IsScript script
    → HaveGainedOnly (run (opening_world c d p q) earlier).world script (run (run (opening_world c d p q) earlier).world script).world
