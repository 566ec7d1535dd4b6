use Rattle.std.proofs.Common.{◌≡◌, ◌+◌, [], ◌∷◌, ◌++◌, sym, subst, ◌∙◌, arith}
use Rattle.poly_rules.specs.Polynomials.{product_of}
use Rattle.poly_rules.specs.Remainders.{IsRemainder, IsFrobeniusTable}
use Rattle.poly_ops.proofs.Tables.{table-first, table-more}
use Rattle.poly_ops.proofs.frobenius.frobenius_table.Goals as goal

pub loop-preserved : goal.loop-preserved
loop-preserved g c =
    subst (λ z. IsFrobeniusTable g.F.Field.ops c.args.f.now (c.loop.counter + 1) (z ++ c.in_ok-square.square ∷ [])) (sym c.in_ok-push.ensures.items)
    (table-more g.F.Field.ops g.met.F.Field.ring c.args.f.now c.loop.counter c.loop.table.items c.loop.power c.in_ok-square.square c.loop.invariant
    (subst (λ f. IsRemainder g.F.Field.ops (product_of g.F.Field.ops c.loop.power c.loop.power) f c.in_ok-square.square) (c.in_ok-divisor.ensures ∙ c.coeffs.ensures.value) c.in_ok-square.ensures))

pub rem_monic-requires : goal.rem_monic-requires
rem_monic-requires g c = record { monic = c.requires.monic; degree = c.requires.degree }

pub loop-init : goal.loop-init
loop-init g c = table-first g.F.Field.ops g.met.F.Field.ring c.args.f.now c.in_ok-variable.field-0 c.in_ok-table.table.items c.in_ok-power.power c.in_ok-table.ensures.items c.in_ok-variable.ensures c.in_ok-power.ensures

pub returns : goal.returns
returns g c =
    let all : c.loop.counter ≡ g.F.Field.BITS = omega (arith, c.loop.auto.counter-end, c.BITS-end.ensures) in
    subst (λ n. IsFrobeniusTable g.F.Field.ops c.args.f.now n c.push-2.new.self.items) all
    (subst (IsFrobeniusTable g.F.Field.ops c.args.f.now c.loop.counter) (sym c.in_ok-push-2.ensures.items) c.loop.invariant)
