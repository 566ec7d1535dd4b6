-- Whole deliveries, which leave nothing on the way.
use Rattle.std.specs.Prelude.{◌≡◌, ℕ, false, List}
use Rattle.pool_rules.specs.Pools.{Transaction}
use Rattle.node_rules.specs.declared.config.Config.{Config}
use Rattle.pair_rules.specs.World.{World, ArePair, IsScript, IsDrained, opening_world, run, has_end, deliveries}
use Rattle.pair_rules.specs.declared.event.Event.{Event}

-- unless a node ends in them, these deliveries leave nothing on the way
abbrev pub IsDrainedWhereUnended : World → ℕ → Type 0
IsDrainedWhereUnended w n = has_end (run w (deliveries n)).world ≡ false → IsDrained (run w (deliveries n)).world

-- from each world that a new pair reaches without an end, 16 pairs of whole deliveries leave both wires drained
abbrev pub DeliveriesDrain : Type 0
DeliveriesDrain =
    (c d : Config) (p q : List Transaction) (script : List Event) → ArePair c d p q → IsScript script
    → has_end (run (opening_world c d p q) script).world ≡ false → IsDrainedWhereUnended (run (opening_world c d p q) script).world 16
