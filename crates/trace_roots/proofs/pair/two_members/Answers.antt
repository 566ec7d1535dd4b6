use Rattle.std.proofs.Common.{[], ◌∷◌, get_or, sym, ap, subst, ◌∙◌}
use Rattle.std.specs.List.Sorted.{IsPermutation}
use Rattle.field_laws.proofs.Numbers.{equal_bits}
use Rattle.trace_roots.proofs.Solving.{pair_of, pair_sum, pair_solution, pair_members}
use Rattle.trace_roots.proofs.pair.two_members.Goals as goal

pub returns-then-eq-clause-found : goal.returns-then-eq-clause-found
returns-then-eq-clause-found g c es distinct is =
    absurd (pair_sum g.F.Field.ops g.met.F.Field.ring es c.index-coeffs-0.result c.index-coeffs-1.result
    (pair_of g.F.Field.ops g.met.F.Field.ring c.args.f.now es c.index-coeffs-0.result c.index-coeffs-1.result c.requires is
    (c.index-coeffs-0.is ∙ ap (λ z. get_or z 0 c.index-coeffs-0.result) c.coeffs.ensures.value)
    (c.index-coeffs-1.is ∙ ap (λ z. get_or z 1 c.index-coeffs-1.result) c.coeffs-2.ensures.value))
    distinct
    ((equal_bits g.F.Field.ops g.F.Field.bits_of g.F.Field.BITS g.met.F.Field.numbered c.eq.result c.index-coeffs-1.result c.ZERO.result (c.eq.ensures ∙ g.met.F.Field.equal c.index-coeffs-1.result c.ZERO.result)).0 c.if-eq.true
    ∙ c.ZERO.ensures ∙ sym g.met.F.Field.zero_is))

pub returns-in_err-y-clause-found : goal.returns-in_err-y-clause-found
returns-in_err-y-clause-found g c es distinct is =
    let solution : _ =
    pair_solution g.F.Field.ops g.met.F.Field.ring es c.index-coeffs-0.result c.index-coeffs-1.result
    (pair_of g.F.Field.ops g.met.F.Field.ring c.args.f.now es c.index-coeffs-0.result c.index-coeffs-1.result c.requires is
    (c.index-coeffs-0.is ∙ ap (λ z. get_or z 0 c.index-coeffs-0.result) c.coeffs.ensures.value)
    (c.index-coeffs-1.is ∙ ap (λ z. get_or z 1 c.index-coeffs-1.result) c.coeffs-2.ensures.value))
    c.inv-inverse.result c.inv-inverse.ensures c.mul.result (c.mul.ensures.times ∙ ap (g.F.Field.ops.times c.index-coeffs-0.result) c.square.ensures) in
    absurd (c.in_err-y.ensures solution.0 solution.1)

pub returns-clause-members : goal.returns-clause-members
returns-clause-members g c es distinct is =
    subst (IsPermutation es)
    (ap (λ z. z ∷ g.F.Field.ops.plus z c.index-coeffs-1.result ∷ []) (sym c.mul-first.ensures.times) ∙ ap (λ z. c.mul-first.result ∷ z ∷ []) (sym c.add.ensures.sum))
    (pair_members g.F.Field.ops g.met.F.Field.ring es c.index-coeffs-0.result c.index-coeffs-1.result
    (pair_of g.F.Field.ops g.met.F.Field.ring c.args.f.now es c.index-coeffs-0.result c.index-coeffs-1.result c.requires is
    (c.index-coeffs-0.is ∙ ap (λ z. get_or z 0 c.index-coeffs-0.result) c.coeffs.ensures.value)
    (c.index-coeffs-1.is ∙ ap (λ z. get_or z 1 c.index-coeffs-1.result) c.coeffs-2.ensures.value))
    g.F.Field.BITS g.met.F.Field.field c.inv-inverse.result c.in_ok-y.y c.inv-inverse.ensures (c.in_ok-y.ensures ∙ c.mul.ensures.times ∙ ap (g.F.Field.ops.times c.index-coeffs-0.result) c.square.ensures))
