use Rattle.std.proofs.Common.{◌≡◌, drop}
use Rattle.poly_rules.specs.Polynomials.{value_at}
use Rattle.poly_ops.proofs.poly.Poly.eval.Given as goal

abbrev pub invariant-loop-i : goal.invariant-loop-i
invariant-loop-i g l = l.value ≡ value_at g.F.Field.ops (drop l.i l.coefficients) l.x
