use Rattle.std.proofs.Common.{◌<◌, ◌≤◌, length, refl, sym, ◌∙◌, arith}
use Rattle.field_core.proofs.OddPowers.{power_one, odd_power_next, odd_powers_more, odd_powers_done}
use Rattle.field_core.proofs.field.Field.odd_powers_into.Goals as goal

pub loop-a-init : goal.loop-a-init
loop-a-init g c = record { power_is = sym (power_one g.Self.Field.ops g.met.Self.Field.ring c.args.e); rest = refl }

pub loop-a-preserved : goal.loop-a-preserved
loop-a-preserved g c = let inside : c.loop-a.a-index < length c.loop-a.acc = omega arith in record {
  power_is = c.mul-power.ensures.times ∙ odd_power_next g.Self.Field.ops g.met.Self.Field.ring c.args.e c.loop-a.power c.mul-square.result c.loop-a.a-index c.loop-a.invariant.power_is c.mul-square.ensures.times;
  rest = rw c.add.ensures.sum (odd_powers_more g.Self.Field.ops c.args.e c.loop-a.power c.a-item.result c.loop-a.a-index c.loop-a.acc inside c.loop-a.invariant.power_is ∙ c.loop-a.invariant.rest);
}

pub returns : goal.returns
returns g c = let past : length c.loop-a.acc ≤ c.loop-a.a-index = omega arith in
    sym (odd_powers_done g.Self.Field.ops c.args.e c.loop-a.a-index c.loop-a.acc past) ∙ c.loop-a.invariant.rest
