use Rattle.std.proofs.Common.{◌≡◌, ◌∷◌, ◌≤◌, length, take, reverse, ap, sym, ◌∙◌, arith}
use Rattle.std.proofs.lemmas.List.{length-take}
use Rattle.std.proofs.lemmas.Result.{IfOk-weaker}
use Rattle.poly_rules.specs.Recurrences.{IsShortest}
use Rattle.recurrence_laws.proofs.Shortest.{solved_front, shortest_within}
use Rattle.bm_solver.specs.Locators.{coefficients_of}
use Rattle.bm_solver.proofs.Locators.{coefficients_are}
use Rattle.bm_solver.proofs.search.Search.recurrence.Goals as goal

pub returns-clause-value : goal.returns-clause-value
returns-clause-value g c =
    IfOk-weaker c.from_monic.result (λ l. c.self.inside.solver.current.monic.items ≡ reverse (g.F.Field.ops.one ∷ l)) (λ l. l ≡ c.args.self.recurrence)
    (λ l is. sym (coefficients_are g.F.Field.ops l) ∙ ap coefficients_of (sym is) ∙ ap (λ s. s.recurrence) c.self.view_is)
    c.from_monic.ensures

pub returns-clause-shortest : goal.returns-clause-shortest
returns-clause-shortest g c =
    rw (← c.self.view_is)
    (IfOk-weaker c.from_monic.result (λ l. c.self.inside.solver.current.monic.items ≡ reverse (g.F.Field.ops.one ∷ l))
    (λ l. IsShortest g.F.Field.ops l (take c.self.inside.solver.read c.self.inside.solver.items.now))
    (λ l is.
    solved_front g.F.Field.ops g.met.F.Field.ring c.self.inside.solver.items.now c.self.inside.solver.current.monic.items c.self.inside.solver.saved.monic.items l
    c.self.inside.solver.read c.self.inside.solver.inverse g.met.F.Field.field.apart c.self.invariant.within c.self.invariant.solving is)
    c.from_monic.ensures)

pub returns-clause-within : goal.returns-clause-within
returns-clause-within g c =
    IfOk-weaker c.from_monic.result (λ l. IsShortest g.F.Field.ops l (take c.args.self.read c.args.self.items)) (λ l. length l ≤ c.args.self.read)
    (λ l shortest. omega (arith, shortest_within g.F.Field.ops (take c.args.self.read c.args.self.items) l shortest, length-take c.args.self.read c.args.self.items))
    (returns-clause-shortest g c)
