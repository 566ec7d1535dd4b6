use Rattle.std.proofs.Common.{◌<◌, ◌-◌, ◌∷◌, length, drop, reverse, sym, ap, subst, ◌∙◌}
use Rattle.field_rules.specs.Fields.{dot_of}
use Rattle.poly_rules.specs.Polynomials.{degree}
use Rattle.recurrence_laws.proofs.Shortest.{solved_front}
use Rattle.bm_solver.specs.Locators.{coefficients_of}
use Rattle.bm_solver.proofs.Locators.{monic_is, length-coefficients}
use Rattle.bm_solver.proofs.Steps.{discrepancy_is}
use Rattle.bm_solver.proofs.search.Search.discrepancy.Goals as goal

pub returns-clause-value : goal.returns-clause-value
returns-clause-value g c =
    rw (← c.self.view_is)
    (discrepancy_is g.F.Field.ops g.met.F.Field.ring c.self.invariant (subst (λ s. s.read < length s.items) (sym c.self.view_is) c.requires) c.index.ensures
    ∙ ap (λ z. dot_of g.F.Field.ops z (drop (c.self.inside.solver.read - degree c.self.inside.solver.current.monic.items) c.self.inside.solver.items.now))
    (monic_is g.F.Field.ops c.self.inside.solver.current.monic.items c.self.invariant.solving.monic)
    ∙ ap (λ z. dot_of g.F.Field.ops (reverse (g.F.Field.ops.one ∷ coefficients_of c.self.inside.solver.current.monic.items)) (drop (c.self.inside.solver.read - z) c.self.inside.solver.items.now))
    (sym (length-coefficients g.F.Field.ops c.self.inside.solver.current.monic.items)))

pub returns-clause-shortest : goal.returns-clause-shortest
returns-clause-shortest g c =
    rw (← c.self.view_is)
    (solved_front g.F.Field.ops g.met.F.Field.ring c.self.inside.solver.items.now c.self.inside.solver.current.monic.items c.self.inside.solver.saved.monic.items
    (coefficients_of c.self.inside.solver.current.monic.items) c.self.inside.solver.read c.self.inside.solver.inverse g.met.F.Field.field.apart c.self.invariant.within c.self.invariant.solving
    (monic_is g.F.Field.ops c.self.inside.solver.current.monic.items c.self.invariant.solving.monic))
