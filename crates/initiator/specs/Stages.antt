-- The machine that a stage is part of.
use Rattle.std.specs.Prelude.{◌≡◌, ℕ, ◌-◌, ◌≤◌, map, length}
use Rattle.wire_rules.specs.declared.phase.Phase.{Phase}
use Rattle.wire_rules.specs.declared.phase.Phase.TheVariants as phase
use Rattle.pool_rules.specs.declared.limits.TheConstants.{FIRST_LIMIT}
use Rattle.node_rules.specs.Stages.{waiting_phase, capacity_after}
use Rattle.node_rules.specs.State.{Round, no_round}
use Rattle.initiator.specs.declared.stage.Stage.{Stage}
use Rattle.initiator.specs.declared.stage.Stage.TheVariants as stage

abbrev pub phase_of : {F : Type 0} → Stage F → Phase
phase_of stage.Idle = phase.Idle
phase_of stage.Waiting = phase.Waiting
phase_of (stage.Extending p) = waiting_phase p.extensions
phase_of stage.Barrier = phase.Barrier
phase_of stage.Fetching = phase.Fetching

abbrev pub round_of : {F : Type 0} → (F → ℕ) → Stage F → Round
round_of bits_of (stage.Extending p) = record { snapshot = p.snapshot.members; capacity = p.capacity; sums = map bits_of p.sketch }
round_of bits_of other = no_round

-- a round whose first sketch had this capacity, with as many sums as the sketch before the last extension that was asked for
pub record IsPending (capacity extensions sums : ℕ) : Type 0 where
  pub least : 1 ≤ capacity
  pub most : capacity ≤ FIRST_LIMIT
  pub once : 1 ≤ extensions
  pub twice : extensions ≤ 2
  pub sums_are : sums ≡ capacity_after capacity (extensions - 1)

abbrev pub IsStage : {F : Type 0} → Stage F → Type 0
IsStage (stage.Extending p) = IsPending p.capacity p.extensions (length p.sketch)
IsStage other = Unit {0}
