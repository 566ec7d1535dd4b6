use Rattle.std.proofs.Common.{◌<◌, ◌≤◌, length, refl, sym, ◌∙◌, arith}
use Rattle.clmul_lanes.specs.Lane32.{ops, ring}
use Rattle.field_core.proofs.OddPowers.{power_one, odd_power_next, odd_powers_more, odd_powers_done}
use Rattle.clmul_lanes.proofs.odd_powers.add_by_products.Goals as goal

pub loop-a-init : goal.loop-a-init
loop-a-init c = record { power_is = sym (power_one ops ring c.args.e); rest = refl }

pub loop-a-preserved : goal.loop-a-preserved
loop-a-preserved c = let inside : c.loop-a.a-index < length c.loop-a.acc = omega arith in record {
  power_is = c.mul-power.ensures.times ∙ odd_power_next ops ring c.args.e c.loop-a.power c.mul-square.result c.loop-a.a-index c.loop-a.invariant.power_is c.mul-square.ensures.times;
  rest = rw c.add.ensures.sum (odd_powers_more ops c.args.e c.loop-a.power c.a-item.result c.loop-a.a-index c.loop-a.acc inside c.loop-a.invariant.power_is ∙ c.loop-a.invariant.rest);
}

pub returns : goal.returns
returns c = let past : length c.loop-a.acc ≤ c.loop-a.a-index = omega arith in
    sym (odd_powers_done ops c.args.e c.loop-a.a-index c.loop-a.acc past) ∙ c.loop-a.invariant.rest
