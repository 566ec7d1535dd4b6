use Rattle.std.proofs.Common.{sym, ap, ◌∙◌, arith}
use Rattle.poly_ops.proofs.Steps.{value_at-more, value_at-past}
use Rattle.poly_ops.proofs.poly.Poly.eval.Goals as goal

pub loop-i-init : goal.loop-i-init
loop-i-init g c = c.ZERO-value.ensures ∙ sym g.met.F.Field.zero_is ∙ sym (value_at-past g.F.Field.ops c.coeffs-coefficients.result.now c.args.x)

pub loop-i-preserved : goal.loop-i-preserved
loop-i-preserved g c =
    c.add-value.ensures.sum
    ∙ ap (g.F.Field.ops.plus c.index-coefficients-i.result) (c.mul.ensures.times ∙ ap (g.F.Field.ops.times c.args.x) c.loop-i.invariant)
    ∙ value_at-more g.F.Field.ops c.coeffs-coefficients.result.now c.loop-i.i c.index-coefficients-i.result c.args.x (omega arith) (omega arith) c.index-coefficients-i.is
