use Rattle.std.proofs.Common.{◌≡◌, ◌++◌, length, ◌∙◌, ap}
use Rattle.sketch_rules.specs.PowerSums.{sketch_by}
use Rattle.sketch_laws.proofs.Parts.{sketch_by-joined}
use Rattle.sketch_core.proofs.sketch.Sketch.join.Goals as goal

pub returns-clause-set : goal.returns-clause-set
returns-clause-set g c es first_is ext_is =
    let ok : c.extend_from_slice.new.self.items ≡ c.args.first ++ c.args.ext.now = c.in_ok-extend_from_slice.ensures.items ∙ ap (λ sums. sums ++ c.args.ext.now) c.first.view_is in
    ok ∙ ap (λ sums. sums ++ c.args.ext.now) first_is
    ∙ ap (λ sums. sketch_by g.F.Field.ops es (length c.args.first) ++ sums) ext_is
    ∙ sketch_by-joined g.F.Field.ops es (length c.args.first) (length c.args.ext.now)
