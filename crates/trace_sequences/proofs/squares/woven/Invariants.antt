use Rattle.std.proofs.Common.{take}
use Rattle.trace_sequences.specs.Woven.{AreWoven}
use Rattle.trace_sequences.proofs.squares.woven.Given as goal

abbrev pub invariant-loop-i : goal.invariant-loop-i
invariant-loop-i g l = AreWoven g.F.Field.ops (take l.i l.first) (take l.i l.second) l.both.items
