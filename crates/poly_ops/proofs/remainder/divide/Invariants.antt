use Rattle.std.proofs.Common.{◌≤◌, min, length}
use Rattle.poly_ops.proofs.Dividing.{IsDivided}
use Rattle.poly_ops.proofs.remainder.divide.Given as goal

abbrev pub invariant-loop-top : goal.invariant-loop-top
invariant-loop-top g l = record {
  divided : IsDivided g.F.Field.ops l.f l.fn.rest l.rest l.n l.top;
  above : min l.n (length l.fn.rest) ≤ l.top;
}
