use Rattle.std.proofs.Common.{◌∷◌, ap, subst, ◌∙◌}
use Rattle.poly_rules.specs.Polynomials.{IsSamePolynomial}
use Rattle.bm_solver.proofs.Locators.{monic_turned}
use Rattle.bm_solver.proofs.locator.Locator.poly.Goals as goal

pub returns : goal.returns
returns g c =
    subst (IsSamePolynomial g.F.Field.ops c.self.inside.poly)
    (monic_turned g.F.Field.ops c.self.inside.monic c.self.invariant.is_monic ∙ ap (λ cs. g.F.Field.ops.one ∷ cs) c.self.view_is)
    c.self.invariant.is_poly
