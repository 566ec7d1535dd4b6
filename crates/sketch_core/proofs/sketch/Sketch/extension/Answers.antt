use Rattle.std.proofs.Common.{◌≡◌, ◌+◌, ◌-◌, ◌≤◌, length, take, drop, ◌∙◌, ap, rules, arith}
use Rattle.sketch_laws.proofs.Parts.{odd_power_sums-middle}
use Rattle.sketch_core.proofs.sketch.Sketch.extension.Goals as goal

pub returns-clause-set : goal.returns-clause-set
returns-clause-set g c es is =
    let ok : c.in_ok-from_slice.field-0.items ≡ take (c.args.to - c.args.from) (drop c.args.from c.args.self.now) = search rules in
    let within : c.args.from + (c.args.to - c.args.from) ≤ length c.args.self.now = omega arith in
    ok ∙ ap (λ sums. take (c.args.to - c.args.from) (drop c.args.from sums)) is
    ∙ odd_power_sums-middle g.F.Field.ops es c.args.from (c.args.to - c.args.from) (length c.args.self.now) within
