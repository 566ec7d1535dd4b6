use Rattle.std.proofs.Common.{rules, ◌≡◌, ◌<◌, ◌≤◌, length, ap, refl, ◌∙◌, arith}
use Rattle.std.proofs.lemmas.List.{take_all}
use Rattle.field_rules.specs.Ops.{power}
use Rattle.sketch_rules.specs.PowerSums.{power_sum}
use Rattle.clmul_lanes.specs.Lane32.{ops}
use Rattle.clmul_lanes.proofs.GatheredSums.{no_sum, no_powers, sum_more, powers_more, powers_meet, is_first_power, is_cube, conjugates_are, none_are, power_sum_is, eight_are}
use Rattle.clmul_lanes.proofs.gathered_sums.eight_sums.Goals as goal

pub loop-e-init : goal.loop-e-init
loop-e-init c = record {
  size = refl;
  first = no_sum 1 _ c.new-first.ensures;
  third = no_sum 3 _ c.new-third.ensures;
  fifth = no_powers 2 0 5 128 _ refl;
  seventh = no_powers 2 0 7 128 _ refl;
  ninth = no_powers 3 0 9 128 _ refl;
  eleventh = no_powers 3 0 11 128 _ refl;
  thirteenth = no_powers 0 2 13 128 _ refl;
  fifteenth = no_powers 2 0 15 128 _ refl;
}

pub loop-e-preserved : goal.loop-e-preserved
loop-e-preserved c =
    let inside : c.loop-e.e-index < length c.args.elements.now = omega arith in
    let own : c.e-item.result ≡ power ops c.e-item.result 1 = is_first_power c.e-item.result in
    let cube : c.mul-cube.result ≡ power ops c.e-item.result 3 = is_cube c.e-item.result c.square.result c.mul-cube.result c.square.ensures c.mul-cube.ensures.times in
    record {
      size = c.type_inv.cubes;
      first = sum_more 1 c.loop-e.e-index c.args.elements.now c.e-item.result c.e-item.result c.loop-e.first c.add-first.result inside c.e-item.is own c.add-first.ensures.sum c.loop-e.invariant.first;
      third = sum_more 3 c.loop-e.e-index c.args.elements.now c.e-item.result c.mul-cube.result c.loop-e.third c.add-third.result inside c.e-item.is cube c.add-third.ensures.sum c.loop-e.invariant.third;
      fifth = powers_more 2 0 5 c.loop-e.e-index c.args.elements.now c.loop-e.own c.add_at_nibbles.new.sums c.e-item.result c.e-item.result c.e-item.result inside c.e-item.is
          (powers_meet 2 0 1 1 5 c.e-item.result c.e-item.result c.e-item.result own own refl) c.add_at_nibbles.ensures c.loop-e.invariant.fifth;
      seventh = powers_more 2 0 7 c.loop-e.e-index c.args.elements.now c.loop-e.cubes c.add_at_nibbles-in-loop-e.new.sums c.e-item.result c.e-item.result c.mul-cube.result inside c.e-item.is
          (powers_meet 2 0 1 3 7 c.e-item.result c.e-item.result c.mul-cube.result own cube refl) c.add_at_nibbles-in-loop-e.ensures c.loop-e.invariant.seventh;
      ninth = powers_more 3 0 9 c.loop-e.e-index c.args.elements.now c.loop-e.own c.add_at_nibbles.new.sums c.e-item.result c.e-item.result c.e-item.result inside c.e-item.is
          (powers_meet 3 0 1 1 9 c.e-item.result c.e-item.result c.e-item.result own own refl) c.add_at_nibbles.ensures c.loop-e.invariant.ninth;
      eleventh = powers_more 3 0 11 c.loop-e.e-index c.args.elements.now c.loop-e.cubes c.add_at_nibbles-in-loop-e.new.sums c.e-item.result c.e-item.result c.mul-cube.result inside c.e-item.is
          (powers_meet 3 0 1 3 11 c.e-item.result c.e-item.result c.mul-cube.result own cube refl) c.add_at_nibbles-in-loop-e.ensures c.loop-e.invariant.eleventh;
      thirteenth = powers_more 0 2 13 c.loop-e.e-index c.args.elements.now c.loop-e.cubes c.add_at_nibbles-in-loop-e.new.sums c.e-item.result c.e-item.result c.mul-cube.result inside c.e-item.is
          (powers_meet 0 2 1 3 13 c.e-item.result c.e-item.result c.mul-cube.result own cube refl) c.add_at_nibbles-in-loop-e.ensures c.loop-e.invariant.thirteenth;
      fifteenth = powers_more 2 0 15 c.loop-e.e-index c.args.elements.now c.loop-e.cubes_own c.add_at_nibbles-in-loop-e-2.new.sums c.e-item.result c.mul-cube.result c.mul-cube.result inside c.e-item.is
          (powers_meet 2 0 3 3 15 c.e-item.result c.mul-cube.result c.mul-cube.result cube cube refl) c.add_at_nibbles-in-loop-e-2.ensures c.loop-e.invariant.fifteenth;
    }

pub returns : goal.returns
returns c =
    let past : length c.args.elements.now ≤ c.loop-e.e-index = omega arith in
    let whole = take_all c.loop-e.e-index c.args.elements.now past in
    let fourth = conjugates_are 2 c.nibble_values-values.result c.fourth_powers-fourth.result c.nibble_values-values.ensures.size (search rules) c.fourth_powers-fourth.ensures in
    let eighth = conjugates_are 3 c.nibble_values-values.result c.eighth_powers-eighth.result c.nibble_values-values.ensures.size (search rules) c.eighth_powers-eighth.ensures in
    let cubes = conjugates_are 2 c.loop-e.cubes c.fourth_powers.result c.loop-e.invariant.size (search rules) c.fourth_powers.ensures in
    eight_are c.args.elements.now c.loop-e.first c.loop-e.third c.dot.result c.dot-2.result c.dot-3.result c.dot-4.result c.dot-5.result c.dot-6.result
    (c.loop-e.invariant.first ∙ ap (power_sum ops 1) whole)
    (c.loop-e.invariant.third ∙ ap (power_sum ops 3) whole)
    (power_sum_is 2 0 5 c.loop-e.e-index c.args.elements.now c.nibble_values-values.result _ _ c.loop-e.own c.dot.result c.nibble_values-values.ensures fourth (none_are c.loop-e.own) c.dot.ensures past c.loop-e.invariant.fifth)
    (power_sum_is 2 0 7 c.loop-e.e-index c.args.elements.now c.nibble_values-values.result _ _ c.loop-e.cubes c.dot-2.result c.nibble_values-values.ensures fourth (none_are c.loop-e.cubes) c.dot-2.ensures past c.loop-e.invariant.seventh)
    (power_sum_is 3 0 9 c.loop-e.e-index c.args.elements.now c.nibble_values-values.result _ _ c.loop-e.own c.dot-3.result c.nibble_values-values.ensures eighth (none_are c.loop-e.own) c.dot-3.ensures past c.loop-e.invariant.ninth)
    (power_sum_is 3 0 11 c.loop-e.e-index c.args.elements.now c.nibble_values-values.result _ _ c.loop-e.cubes c.dot-4.result c.nibble_values-values.ensures eighth (none_are c.loop-e.cubes) c.dot-4.ensures past c.loop-e.invariant.eleventh)
    (power_sum_is 0 2 13 c.loop-e.e-index c.args.elements.now c.nibble_values-values.result _ _ c.loop-e.cubes c.dot-5.result c.nibble_values-values.ensures (none_are c.nibble_values-values.result) cubes c.dot-5.ensures past c.loop-e.invariant.thirteenth)
    (power_sum_is 2 0 15 c.loop-e.e-index c.args.elements.now c.nibble_values-values.result _ _ c.loop-e.cubes_own c.dot-6.result c.nibble_values-values.ensures fourth (none_are c.loop-e.cubes_own) c.dot-6.ensures past c.loop-e.invariant.fifteenth)
