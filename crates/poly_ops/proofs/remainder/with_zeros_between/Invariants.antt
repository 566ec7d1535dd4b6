use Rattle.std.proofs.Common.{◌≡◌, take}
use Rattle.poly_laws.specs.Squares.{with_zeros}
use Rattle.poly_ops.proofs.remainder.with_zeros_between.Given as goal

abbrev pub invariant-loop-a : goal.invariant-loop-a
invariant-loop-a g l = l.spaced.items ≡ with_zeros g.F.Field.ops.zero (take l.a-index l.items)
