use Rattle.std.proofs.Common.{◌≡◌, ◌-◌, length, sym, ap, ◌∙◌, arith}
use Rattle.poly_rules.specs.Polynomials.{degree}
use Rattle.bm_solver.proofs.Locators.{length-coefficients}
use Rattle.bm_solver.proofs.search.Search.length.Goals as goal

pub returns : goal.returns
returns g c =
    (let here : c.len.result - 1 ≡ degree c.self.inside.solver.current.monic.items = omega arith in here)
    ∙ sym (length-coefficients g.F.Field.ops c.self.inside.solver.current.monic.items)
    ∙ ap (λ s. length s.recurrence) c.self.view_is
