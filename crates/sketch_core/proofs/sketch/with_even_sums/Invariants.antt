use Rattle.std.proofs.Common.{take}
use Rattle.sketch_rules.specs.PowerSums.{IsAllSums}
use Rattle.sketch_core.proofs.sketch.with_even_sums.Given as goal

abbrev pub invariant-loop-i : goal.invariant-loop-i
invariant-loop-i g l = IsAllSums g.F.Field.ops (take l.i l.odd) l.sums.items
