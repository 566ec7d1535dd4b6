use Rattle.std.proofs.Common.{◌-◌, take, drop, sym, subst, arith}
use Rattle.poly_rules.specs.Polynomials.{IsSamePolynomial, IsMonic, sum_of, product_of}
use Rattle.poly_ops.proofs.Dividing.{divided_none, divided, divided_all}
use Rattle.poly_ops.proofs.remainder.divide.Goals as goal

pub loop-top-init : goal.loop-top-init
loop-top-init g c = record {
  divided = divided_none g.F.Field.ops g.met.F.Field.ring c.args.f.now c.args.rest.now c.degree-n.result;
  above = omega arith;
}

pub loop-top-preserved : goal.loop-top-preserved
loop-top-preserved g c = record {
  divided = divided g.F.Field.ops g.met.F.Field.ring c.args.f.now c.args.rest.now c.loop-top.rest c.add_lower.new.acc c.degree-n.result c.loop-top.top
      (c.loop-top.top - 1 - (c.loop-top.top - 1 - c.degree-n.result)) c.index-rest-top.result
      (subst (λ z. IsMonic g.F.Field.ops z c.args.f.now) (sym c.degree-n.ensures.value) c.degree-n.ensures.monic) (omega arith) (omega arith) (omega arith)
      c.index-rest-top.is (rw (← c.degree-n.ensures.value) at c.add_lower.ensures) c.loop-top.invariant.divided;
  above = omega arith;
}

pub returns : goal.returns
returns g c =
    subst (λ z. IsSamePolynomial g.F.Field.ops c.args.rest.now (sum_of g.F.Field.ops (product_of g.F.Field.ops (drop z c.loop-top.rest) c.args.f.now) (take z c.loop-top.rest)))
    c.degree-n.ensures.value
    (divided_all g.F.Field.ops g.met.F.Field.ring c.args.f.now c.args.rest.now c.loop-top.rest c.degree-n.result c.loop-top.top (omega arith) c.loop-top.invariant.divided)
