-- What the reports of both sides of a round have in common.
use Rattle.std.specs.Prelude.{◌≡◌, ℕ, ◌≤◌, false, List, ◌++◌, length, Some}
use Rattle.id_rules.specs.Ids.{KeyPair}
use Rattle.pool_rules.specs.Pools.{Transaction}
use Rattle.pool_rules.specs.Snapshots.{snapshot_difference}
use Rattle.pool_rules.specs.declared.report.Report.{Report}
use Rattle.node_rules.specs.Outcomes.{missing_short_ids, own_short_ids}
use Rattle.node_rules.specs.Stages.{extensions_in}
use Rattle.node_rules.specs.declared.config.Config.{Config}
use Rattle.pair_rules.specs.Rounds.{EachRound, IsFitting, pair_keys, snapshot_of}
use Rattle.pair_rules.specs.World.{World, ArePair, IsScript, IsDrained, opening_world, run, has_end}
use Rattle.pair_rules.specs.declared.event.Event.{Event}

-- the lists of an answered round: the accepter's has what the opener asked for. Where the round fits, the opener's is the
-- difference, and the accepter's its own part of it
pub record AreLists (keys : KeyPair) (ra rb : Report) : Type 0 where
  pub asked : rb.answered ≡ missing_short_ids (snapshot_of keys ra) ra.answered
  pub opener : IsFitting keys ra rb → ra.answered ≡ snapshot_difference (snapshot_of keys ra) (snapshot_of keys rb)
  pub accepter : IsFitting keys ra rb → rb.answered ≡ own_short_ids (snapshot_of keys rb) (snapshot_difference (snapshot_of keys ra) (snapshot_of keys rb))

pub record AreAlike (keys : KeyPair) (ra rb : Report) : Type 0 where
  pub ending : ra.ending ≡ rb.ending
  pub capacity : ra.capacity ≡ rb.capacity
  pub answered : (extensions : ℕ) → extensions_in ra.ending ≡ Some extensions → AreLists keys ra rb

-- the accepter may have the last one still to make
pub record AreAlikeSoFar (keys : KeyPair) (ras rbs : List Report) : Type 0 where
  pub coming : List Report
  pub few : length coming ≤ 1
  pub rounds : EachRound (AreAlike keys) ras (rbs ++ coming)

-- over every run, also one in which a node ends
abbrev pub ReportsAreAlikeSoFar : Type 0
ReportsAreAlikeSoFar =
    (c d : Config) (p q : List Transaction) (script : List Event) → ArePair c d p q → IsScript script
    → AreAlikeSoFar (pair_keys (run (opening_world c d p q) script).world) (run (opening_world c d p q) script).world.a.machine.reports (run (opening_world c d p q) script).world.b.machine.reports

abbrev pub AreAlikeWhereDrained : World → Type 0
AreAlikeWhereDrained w = has_end w ≡ false → IsDrained w → EachRound (AreAlike (pair_keys w)) w.a.machine.reports w.b.machine.reports

-- whenever neither node has ended and both wires are drained there are as many of both
abbrev pub DrainedReportsAreAlike : Type 0
DrainedReportsAreAlike =
    (c d : Config) (p q : List Transaction) (script : List Event) → ArePair c d p q → IsScript script → AreAlikeWhereDrained (run (opening_world c d p q) script).world
