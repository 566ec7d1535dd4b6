-- Rounds of two nodes: round i is the i-th report of each. When a round fits, and what it then leaves.
use Rattle.std.specs.Prelude.{◌≡◌, ◌⊎◌, ℕ, ◌≤◌, ◌%◌, ◌^◌, IsTrue, List, [], ◌∷◌, length, Some, None}
use Rattle.std.specs.List.{AllByRecursion}
use Rattle.std.specs.declared.option.Option.{Option}
use Rattle.base_types.specs.declared.lists.Hash32.{Hash32}
use Rattle.id_rules.specs.Ids.{KeyPair, keys_of}
use Rattle.wire_rules.specs.declared.phase.Phase.TheVariants as phase
use Rattle.pool_rules.specs.Pools.{is_in_pool}
use Rattle.pool_rules.specs.Snapshots.{Member, IsCollisionFree, members, snapshot_difference}
use Rattle.pool_rules.specs.declared.report.Ending.TheVariants as ending
use Rattle.pool_rules.specs.declared.report.Report.{Report}
use Rattle.node_rules.specs.Outcomes.{announcement}
use Rattle.node_rules.specs.Stages.{extensions_in, capacity_after}
use Rattle.node_rules.specs.State.{NodeState, open_wants}
use Rattle.pair_rules.specs.World.{World}

-- the key of both salts
abbrev pub pair_keys : World → KeyPair
pair_keys w = keys_of w.a.config.salt w.b.config.salt

-- what a report's round took of its side's set
abbrev pub snapshot_of : KeyPair → Report → List Member
snapshot_of keys r = members keys r.snapshot

-- what a side announces of a round, by the extensions of the sketch that answered it: what was set aside and what was answered;
-- or all, where the round fell back
unfoldable pub announced_by : Option ℕ → KeyPair → Report → List Hash32
announced_by (Some n) keys r = announcement (snapshot_of keys r) r.answered
announced_by None keys r = r.snapshot

abbrev pub announced_of : KeyPair → Report → List Hash32
announced_of keys r = announced_by (extensions_in r.ending) keys r

unfoldable pub capacity_by : Option ℕ → ℕ → ℕ
capacity_by (Some n) c = capacity_after c n
capacity_by None c = 0

-- the capacity of the sketch that answered
abbrev pub answering_capacity : Report → ℕ
answering_capacity r = capacity_by (extensions_in r.ending) r.capacity

-- the short ids of both snapshots are apart, and what they differ in is no more than the sketch that answered can hold
pub record IsFitting (keys : KeyPair) (ra rb : Report) : Type 0 where
  pub apart : IsCollisionFree (snapshot_of keys ra) (snapshot_of keys rb)
  pub small : length (snapshot_difference (snapshot_of keys ra) (snapshot_of keys rb)) ≤ answering_capacity ra

-- a round fits where it fell back, or where it is fitting
abbrev pub IsReconcilable : KeyPair → Report → Report → Type 0
IsReconcilable keys ra rb = (ra.ending ≡ ending.Fallback) ⊎ IsFitting keys ra rb

pub record IsInBoth (w : World) (id : Hash32) : Type 0 where
  pub a : IsTrue (is_in_pool w.a.pool id)
  pub b : IsTrue (is_in_pool w.b.pool id)

-- each id of both snapshots is in both pools
pub record HasBothSnapshots (w : World) (ra rb : Report) : Type 0 where
  pub of_a : AllByRecursion (IsInBoth w) ra.snapshot
  pub of_b : AllByRecursion (IsInBoth w) rb.snapshot

-- there are as many reports on both sides, and P holds of those of each round
unfoldable pub EachRound : (Report → Report → Type 0) → List Report → List Report → Type 0
EachRound P [] [] = Unit {0}
EachRound P [] (rb ∷ rbs) = ⊥
EachRound P (ra ∷ ras) [] = ⊥
EachRound P (ra ∷ ras) (rb ∷ rbs) = P ra rb × EachRound P ras rbs

-- a node between rounds, to which nothing is to come
pub record IsQuiet (s : NodeState) : Type 0 where
  pub idle : s.machine.phase ≡ phase.Idle
  pub nothing_unread : s.inbox.unread ≡ []
  pub nothing_wanted : open_wants s ≡ []

-- every round that was begun is over on both sides, and each that fits has left both snapshots in both pools
pub record IsFinished (w : World) : Type 0 where
  pub quiet_a : IsQuiet w.a
  pub quiet_b : IsQuiet w.b
  pub rounds : EachRound (λ ra rb. IsReconcilable (pair_keys w) ra rb → HasBothSnapshots w ra rb) w.a.machine.reports w.b.machine.reports
  pub begun : w.a.requests.begun ≡ length w.a.machine.reports % 2 ^ 64
