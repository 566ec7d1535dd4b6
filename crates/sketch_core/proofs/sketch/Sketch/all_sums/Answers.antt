use Rattle.std.proofs.Common.{length, ◌∙◌, subst}
use Rattle.std.proofs.lemmas.Result.{IfOk-weaker}
use Rattle.sketch_rules.specs.PowerSums.{IsAllSums}
use Rattle.sketch_laws.proofs.EverySums.{power_sums-only}
use Rattle.sketch_core.proofs.sketch.Sketch.all_sums.Goals as goal

pub returns-clause-set : goal.returns-clause-set
returns-clause-set g c es is =
    IfOk-weaker c.with_even_sums.result _ _
    (λ v all. power_sums-only g.F.Field.ops g.met.F.Field.ring es (length c.args.self.now) v.items (subst (λ sums. IsAllSums g.F.Field.ops sums v.items) (c.as_slice.ensures.value ∙ c.self.view_is ∙ is) all))
    c.with_even_sums.ensures
