use Rattle.std.proofs.Common.{◌≡◌, length, take, ◌∙◌, ap, rules}
use Rattle.sketch_laws.proofs.Parts.{odd_power_sums-front}
use Rattle.sketch_core.proofs.sketch.Sketch.prefix.Goals as goal

pub returns-clause-set : goal.returns-clause-set
returns-clause-set g c es is =
    let ok : c.in_ok-sums.sums.items ≡ take c.args.k c.args.self.now = search rules in
    ok ∙ ap (take c.args.k) is ∙ odd_power_sums-front g.F.Field.ops es 0 (length c.args.self.now) c.args.k c.requires.1
