use Rattle.std.proofs.Common.{◌≡◌, ◌*◌, length, take}
use Rattle.field_rules.specs.Lists.{sums_of_both}
use Rattle.sketch_rules.specs.PowerSums.{odd_power_sums}
use Rattle.clmul_lanes.specs.Lane32.{ops}
use Rattle.clmul_lanes.proofs.small_sums.add_four_at_a_time.Given as goal

abbrev pub invariant-loop-n : goal.invariant-loop-n
invariant-loop-n l = l.acc ≡ sums_of_both ops l.fn.acc (odd_power_sums ops (take (4 * l.n) l.elements) 0 (length l.fn.acc))
