use Rattle.std.proofs.Common.{◌≡◌, ◌+◌, ◌*◌, ◌<◌, ◌≤◌, length, get_or, ap, ap₂, ◌∙◌, arith}
use Rattle.std.proofs.lemmas.List.{get_or_default}
use Rattle.sketch_rules.specs.PowerSums.{power_sum}
use Rattle.sketch_laws.proofs.EverySums.{get_or-odd_power_sums}
use Rattle.clmul_lanes.specs.Lane32.{ops, zero_of}
use Rattle.clmul_lanes.proofs.Added.{none_added, one_added, all_added}
use Rattle.clmul_lanes.proofs.gathered_sums.add_gathered.Goals as goal

pub loop-i-init : goal.loop-i-init
loop-i-init c = none_added ops c.args.elements.now c.args.acc.now

pub loop-i-preserved : goal.loop-i-preserved
loop-i-preserved c =
    let inside : c.loop-i.i < length c.loop-i.acc = omega arith in
    let index : 2 * (0 + c.loop-i.i) + 1 ≡ 2 * c.loop-i.i + 1 = omega arith in
    one_added ops c.args.elements.now c.loop-i.i c.args.acc.now c.loop-i.acc c.add.result inside
    (c.add.ensures.sum
    ∙ ap₂ ops.plus (c.index-acc-i.is ∙ get_or_default c.loop-i.acc c.loop-i.i c.index-acc-i.result zero_of inside)
    (ap (λ l. get_or l c.loop-i.i c.index-sums-i.result) c.eight_sums-sums.ensures
    ∙ get_or-odd_power_sums ops c.args.elements.now 0 8 c.loop-i.i c.index-sums-i.result (omega arith)
    ∙ ap (λ k. power_sum ops k c.args.elements.now) index))
    c.loop-i.invariant

pub returns : goal.returns
returns c = let past : length c.args.acc.now ≤ c.loop-i.i = omega arith in
    all_added ops c.args.elements.now c.loop-i.i c.args.acc.now c.loop-i.acc past c.loop-i.invariant
