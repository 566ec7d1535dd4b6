-- The events of a side.
use Rattle.std.specs.Prelude.{ℕ, List}
use Rattle.pair_rules.specs.declared.event.Event.{Event}
use Rattle.pair_rules.specs.declared.event.Event.TheVariants as event
use Rattle.pair_rules.specs.declared.side.Side.{Side}
use Rattle.pair_rules.specs.declared.side.Side.TheVariants as side

-- so many bytes from a side reach the other
abbrev pub delivery_from : Side → ℕ → Event
delivery_from side.A n = event.DeliverAb n
delivery_from side.B n = event.DeliverBa n

-- a transaction is added to a side
abbrev pub addition_to : Side → List ℕ → Event
addition_to side.A tx = event.AddA tx
addition_to side.B tx = event.AddB tx
