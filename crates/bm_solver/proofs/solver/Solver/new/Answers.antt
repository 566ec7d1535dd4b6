use Rattle.std.proofs.Common.{sym, ◌∙◌}
use Rattle.bm_solver.proofs.Steps.{started}
use Rattle.bm_solver.proofs.solver.Solver.new.Goals as goal

pub returns-clause-so_far : goal.returns-clause-so_far
returns-clause-so_far g c =
    started g.F.Field.ops g.met.F.Field.ring c.in_ok-current.ensures.monic c.in_ok-saved.ensures.monic (c.ONE.ensures ∙ sym g.met.F.Field.one_is)
    c.in_ok-current.ensures.discrepancies c.in_ok-saved.ensures.discrepancies c.in_ok-spare.ensures.discrepancies
