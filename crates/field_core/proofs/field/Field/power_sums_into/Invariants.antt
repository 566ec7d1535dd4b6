use Rattle.std.proofs.Common.{◌≡◌, length, take}
use Rattle.field_rules.specs.Lists.{sums_of_both}
use Rattle.sketch_rules.specs.PowerSums.{odd_power_sums}
use Rattle.field_core.proofs.field.Field.power_sums_into.Given as goal

abbrev pub invariant-loop-e : goal.invariant-loop-e
invariant-loop-e g l = l.acc ≡ sums_of_both g.Self.Field.ops l.fn.acc (odd_power_sums g.Self.Field.ops (take l.e-index l.elements) 0 (length l.fn.acc))
