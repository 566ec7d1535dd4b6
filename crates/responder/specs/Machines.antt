-- The machine that is kept.
use Rattle.std.specs.Prelude.{◌≡◌, ℕ, ◌≤◌, List, [], Some, None, IfSome}
use Rattle.std.specs.declared.option.Option.{Option}
use Rattle.wire_rules.specs.declared.phase.Phase.TheVariants as phase
use Rattle.pool_rules.specs.Snapshots.{Member}
use Rattle.pool_rules.specs.declared.limits.TheConstants.{LEAST_CAPACITY, FIRST_LIMIT}
use Rattle.pool_rules.specs.declared.report.Report.{Report}
use Rattle.node_rules.specs.Stages.{sent_phase}
use Rattle.node_rules.specs.State.{Round, Machine, no_round}

-- a round under way: what was taken from the set, the capacity of the first sketch, and how many extensions were sent
pub record Progress : Type 0 where
  pub snapshot : List Member
  pub capacity : ℕ
  pub extensions : ℕ

abbrev pub round_of : Progress → Round
round_of p = record { snapshot = p.snapshot; capacity = p.capacity; sums = [] }

-- between rounds
abbrev pub idle_machine : ℕ → List Report → Machine
idle_machine level reports = record { phase = phase.Idle; level = level; round = no_round; reports = reports }

-- by whether a round is under way
abbrev pub machine_of : ℕ → Option Progress → List Report → Machine
machine_of level None reports = idle_machine level reports
machine_of level (Some p) reports = record { phase = sent_phase p.extensions; level = level; round = round_of p; reports = reports }

-- a first capacity, and two extensions at most
pub record IsProgress (width capacity extensions : ℕ) : Type 0 where
  pub width_is : width ≡ 32
  pub least : LEAST_CAPACITY ≤ capacity
  pub greatest : capacity ≤ FIRST_LIMIT
  pub few : extensions ≤ 2

-- one or two extensions may be asked for, and no more were sent
pub record IsLevel (width level : ℕ) (progress : Option Progress) : Type 0 where
  pub width_is : width ≡ 32
  pub least : 1 ≤ level
  pub greatest : level ≤ 2
  pub within : IfSome progress (λ p. p.extensions ≤ level)
