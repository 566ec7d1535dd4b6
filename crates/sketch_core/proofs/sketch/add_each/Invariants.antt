use Rattle.std.proofs.Common.{◌≡◌, ◌++◌, take, drop}
use Rattle.field_rules.specs.Lists.{sums_of_both}
use Rattle.sketch_core.proofs.sketch.add_each.Given as goal

abbrev pub invariant-loop-i : goal.invariant-loop-i
invariant-loop-i g l = take l.i l.sums ++ sums_of_both g.F.Field.ops (drop l.i l.sums) (drop l.i l.more) ≡ sums_of_both g.F.Field.ops l.fn.sums l.more
