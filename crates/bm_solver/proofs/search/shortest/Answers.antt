use Rattle.std.proofs.Common.{◌≡◌, ◌∷◌, length, take, reverse, arith, ap, subst, ◌∙◌}
use Rattle.std.proofs.lemmas.List.{take_all}
use Rattle.std.proofs.lemmas.Result.{IfOk-weaker}
use Rattle.poly_rules.specs.Recurrences.{IsShortest}
use Rattle.poly_rules.specs.Roots.{with_roots}
use Rattle.splitting_laws.proofs.Recurrences.{shortest_of_set}
use Rattle.bm_solver.proofs.search.shortest.Goals as goal

pub returns-clause-shortest : goal.returns-clause-shortest
returns-clause-shortest g c =
    let whole : take c.in_ok-read.field-0.read c.in_ok-read.field-0.items ≡ c.args.sums.now =
    ap (take c.in_ok-read.field-0.read) (c.in_ok-read.ensures.items ∙ c.in_ok-over.ensures.items)
    ∙ take_all c.in_ok-read.field-0.read c.args.sums.now (omega (arith, c.in_ok-read.ensures.read, c.in_ok-over.ensures.read)) in
    rw whole at c.recurrence.ensures.shortest

pub returns-clause-set : goal.returns-clause-set
returns-clause-set g c es differ nonzero few sums =
    IfOk-weaker c.recurrence.result (λ l. IsShortest g.F.Field.ops l c.args.sums.now)
    (λ l. (length l ≡ length es) × (reverse (g.F.Field.ops.one ∷ l) ≡ with_roots g.F.Field.ops es))
    (λ l shortest.
    shortest_of_set g.F.Field.ops g.met.F.Field.ring g.F.Field.BITS g.met.F.Field.field l es (length c.args.sums.now) differ nonzero few
    (subst (IsShortest g.F.Field.ops l) sums shortest))
    (returns-clause-shortest g c)
