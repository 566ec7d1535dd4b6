-- A sketch message at the machine: whether it is refused, and the round that its sums belong to.
use Rattle.std.specs.Prelude.{◌≡◌, ℕ, List, map, option_map, Some, None, Ok, Err}
use Rattle.std.specs.declared.option.Option.{Option}
use Rattle.std.specs.declared.result.Result.{Result}
use Rattle.wire_rules.specs.declared.name.Name.TheVariants as name
use Rattle.pool_rules.specs.Snapshots.{Member}
use Rattle.node_rules.specs.Opener.{length_fault, round_after_sketch}
use Rattle.node_rules.specs.Stages.{requested_extensions}
use Rattle.node_rules.specs.State.{Machine, Round, no_round}
use Rattle.node_rules.specs.declared.end.End.{End}
use Rattle.node_rules.specs.declared.end.End.TheVariants as end
use Rattle.initiator.specs.declared.fault.InitiatorFault.{InitiatorFault}
use Rattle.initiator.specs.declared.fault.InitiatorFault.TheVariants as fault

-- the end of a node that refuses a sketch
abbrev pub end_of : InitiatorFault → Option End
end_of (fault.Misplaced command at) = Some (end.Misplaced command at)
end_of (fault.SketchLength len wanted) = Some (end.SketchLength len wanted)
end_of fault.OutOfMemory = None

-- ---- by how many extensions were asked for

abbrev pub fault_by : Option ℕ → Machine → ℕ → Option End
fault_by None m len = Some (end.Misplaced name.Sketch m.phase)
fault_by (Some n) m len = length_fault m n len

abbrev pub round_by : Option ℕ → Machine → List Member → List ℕ → Round
round_by None m set bytes = no_round
round_by (Some n) m set bytes = round_after_sketch m set n bytes

-- ---- at a machine

-- why a sketch of as many bytes is refused, where it is
abbrev pub sketch_fault : Machine → ℕ → Option End
sketch_fault m len = fault_by (requested_extensions m.phase) m len

-- the round with the sums of a sketch
abbrev pub round_with : Machine → List Member → List ℕ → Round
round_with m set bytes = round_by (requested_extensions m.phase) m set bytes

-- a call answers the question of a sketch: its refusal, or the sketch that is to be decoded, where it has not run out of
-- memory
abbrev pub IsQuestion : {F : Type 0} → (F → ℕ) → Result (Option (List ℕ)) End → Result (Option (List F)) InitiatorFault → Type 0
IsQuestion bits_of (Ok asked) (Ok sketch) = asked ≡ option_map (map bits_of) sketch
IsQuestion bits_of (Ok asked) (Err want) = want ≡ fault.OutOfMemory
IsQuestion bits_of (Err refused) (Ok sketch) = ⊥
IsQuestion bits_of (Err refused) (Err told) = end_of told ≡ Some refused
