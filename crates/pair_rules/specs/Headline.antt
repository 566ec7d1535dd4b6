-- What this project is to prove of two nodes.
use Rattle.std.specs.Prelude.{◌≡◌, false, List}
use Rattle.pool_rules.specs.Pools.{Transaction}
use Rattle.node_rules.specs.declared.config.Config.{Config}
use Rattle.pair_rules.specs.Rounds.{IsFinished}
use Rattle.pair_rules.specs.World.{World, ArePair, IsScript, IsDrained, opening_world, run, has_end}
use Rattle.pair_rules.specs.declared.event.Event.{Event}

-- where no node has ended and nothing is on the way, every begun round is finished
abbrev pub IsFinishedWhereDrained : World → Type 0
IsFinishedWhereDrained w = has_end w ≡ false → IsDrained w → IsFinished w

-- two nodes in opposite roles, however bytes are cut, directions interleaved, transactions added and rounds begun: whenever
-- neither has ended and both wires are drained, every begun round is finished and has left both snapshots in both pools,
-- if it fell back, or if its short ids are apart and its difference fits the sketch that answered
abbrev pub DrainedWorldsAreFinished : Type 0
DrainedWorldsAreFinished =
    (c d : Config) (p q : List Transaction) (script : List Event) → ArePair c d p q → IsScript script
    → IsFinishedWhereDrained (run (opening_world c d p q) script).world
