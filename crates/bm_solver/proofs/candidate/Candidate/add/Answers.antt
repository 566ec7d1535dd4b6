use Rattle.std.proofs.Common.{◌+◌, ◌-◌, ◌++◌, replicate, arith, ap, ◌∙◌}
use Rattle.std.proofs.lemmas.List.{take_at}
use Rattle.poly_rules.specs.Polynomials.{coefficient, sum_of, scalar_multiple}
use Rattle.bm_solver.proofs.candidate.Candidate.add.Goals as goal

pub returns-clause-monic : goal.returns-clause-monic
returns-clause-monic g c =
    take_at c.add_multiple.new.acc _ _ (omega arith)
    ∙ c.add_multiple.ensures
    ∙ ap (λ z. sum_of g.F.Field.ops z (replicate c.args.shift g.F.Field.ops.zero ++ scalar_multiple g.F.Field.ops c.args.k c.as_slice.result.now)) c.as_mut_slice.ensures.value
    ∙ ap (λ z. sum_of g.F.Field.ops c.args.self.now.monic.items (replicate c.args.shift g.F.Field.ops.zero ++ scalar_multiple g.F.Field.ops c.args.k z)) c.as_slice.ensures.value

pub returns-clause-discrepancies : goal.returns-clause-discrepancies
returns-clause-discrepancies g c j from lt =
    ap (λ z. coefficient g.F.Field.ops z j) (take_at c.add_behind.new.acc _ _ (omega arith))
    ∙ c.add_behind.ensures.each j from (omega arith)
    ∙ ap (λ z. g.F.Field.ops.plus (coefficient g.F.Field.ops z j) (g.F.Field.ops.times c.args.k (coefficient g.F.Field.ops c.as_slice-2.result.now (c.args.behind + (j - c.args.next))))) c.as_mut_slice-2.ensures.value
    ∙ ap (λ z. g.F.Field.ops.plus (coefficient g.F.Field.ops c.args.self.now.discrepancies.items j) (g.F.Field.ops.times c.args.k (coefficient g.F.Field.ops z (c.args.behind + (j - c.args.next))))) c.as_slice-2.ensures.value
