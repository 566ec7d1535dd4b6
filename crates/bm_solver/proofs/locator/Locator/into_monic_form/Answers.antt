use Rattle.std.proofs.Common.{◌∷◌, length, reverse, sym, ap, ◌∙◌}
use Rattle.bm_solver.proofs.Locators.{monic_is, length-coefficients}
use Rattle.bm_solver.proofs.locator.Locator.into_monic_form.Goals as goal

pub returns-clause-value : goal.returns-clause-value
returns-clause-value g c =
    monic_is g.F.Field.ops c.self.inside.monic c.self.invariant.is_monic
    ∙ ap (λ cs. reverse (g.F.Field.ops.one ∷ cs)) c.self.view_is

pub returns-clause-monic : goal.returns-clause-monic
returns-clause-monic g c = c.self.invariant.is_monic

pub returns-clause-degree : goal.returns-clause-degree
returns-clause-degree g c = sym (length-coefficients g.F.Field.ops c.self.inside.monic) ∙ ap length c.self.view_is
