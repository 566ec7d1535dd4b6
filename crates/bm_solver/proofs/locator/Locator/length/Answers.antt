use Rattle.std.proofs.Common.{◌-◌, length, sym, ap, ◌∙◌}
use Rattle.bm_solver.proofs.Locators.{length-coefficients}
use Rattle.bm_solver.proofs.locator.Locator.length.Goals as goal

pub returns : goal.returns
returns g c =
    ap (λ f. length f - 1) c.coeffs.ensures.value
    ∙ sym (length-coefficients g.F.Field.ops c.self.inside.monic)
    ∙ ap length c.self.view_is
