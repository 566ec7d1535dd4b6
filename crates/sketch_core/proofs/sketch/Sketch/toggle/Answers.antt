use Rattle.std.proofs.Common.{◌≡◌, length, drop, ◌∙◌, ap, arith}
use Rattle.field_rules.specs.Ops.{with_odd_powers}
use Rattle.sketch_core.proofs.Both.{written_back}
use Rattle.field_core.proofs.PowerSums.{odd_power_sums-more}
use Rattle.sketch_core.proofs.sketch.Sketch.toggle.Goals as goal

pub returns-clause-sums : goal.returns-clause-sums
returns-clause-sums g c =
    let long : c.self.inside.sums.len ≡ length c.odd_powers_into.new.acc = omega arith in
    written_back c.self.inside.sums.len c.odd_powers_into.new.acc (drop (length c.odd_powers_into.new.acc) c.self.inside.sums.items) long
    ∙ c.odd_powers_into.ensures
    ∙ ap (with_odd_powers g.F.Field.ops c.args.e 0) (c.as_mut_slice.ensures.value ∙ c.self.view_is)

pub returns-clause-set : goal.returns-clause-set
returns-clause-set g c es is =
    returns-clause-sums g c ∙ ap (with_odd_powers g.F.Field.ops c.args.e 0) is ∙ odd_power_sums-more g.F.Field.ops g.met.F.Field.ring es c.args.e 0 (length c.args.self.now)
