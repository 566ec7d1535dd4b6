use Rattle.std.proofs.Common.{rules, ◌^◌, ◌<◌, ◌≤◌, length, drop, sym, ◌∙◌, arith}
use Rattle.std.specs.Int.Bits.{xor_zero_l}
use Rattle.field_rules.specs.Elements.{remainder}
use Rattle.field_rules.specs.Fields.{dot_of}
use Rattle.clmul_lanes.specs.Lane32.{ops, bits_of, same_bits}
use Rattle.clmul_lanes.proofs.SumsOfProducts.{sum_more, sum_done}
use Rattle.clmul_lanes.proofs.lane32.Lane32Field.dot.Goals as goal

pub loop-i-init : goal.loop-i-init
unfolding remainder
loop-i-init c = xor_zero_l (bits_of (dot_of ops c.args.x.now c.args.y.now))

pub loop-i-preserved : goal.loop-i-preserved
loop-i-preserved c =
    let inside : c.loop-i.i < length c.args.x.now = omega arith in
    let within : c.loop-i.i < length c.args.y.now = omega arith in
    let fits : c.loop-i.sum < 2 ^ 64 = search rules in
    let fits_product : c.carryless_product-sum.result < 2 ^ 64 = search rules in
    sum_more c.loop-i.sum c.carryless_product-sum.result c.index-x-i.result c.index-y-i.result c.loop-i.i c.args.x.now c.args.y.now fits fits_product inside within c.carryless_product-sum.ensures
    ∙ c.loop-i.invariant

pub returns : goal.returns
returns c = let past : length c.args.x.now ≤ c.loop-i.i = omega arith in
    same_bits _ (dot_of ops c.args.x.now c.args.y.now)
    (c.reduce.ensures ∙ sym (sum_done c.loop-i.sum c.loop-i.i c.args.x.now (drop c.loop-i.i c.args.y.now) past) ∙ c.loop-i.invariant)
