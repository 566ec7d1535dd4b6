use Rattle.std.proofs.Common.{arith, ap, ◌∙◌}
use Rattle.std.proofs.lemmas.List.{take_at}
use Rattle.poly_rules.specs.Polynomials.{coefficient}
use Rattle.bm_solver.proofs.candidate.Candidate.set_raised.Goals as goal

pub returns-clause-discrepancies : goal.returns-clause-discrepancies
returns-clause-discrepancies g c j from lt =
    ap (λ z. coefficient g.F.Field.ops z j) (take_at c.copy_behind.new.acc _ _ (omega arith))
    ∙ c.copy_behind.ensures.each j from (omega arith)
    ∙ ap (λ z. coefficient g.F.Field.ops z j) c.as_slice-2.ensures.value
