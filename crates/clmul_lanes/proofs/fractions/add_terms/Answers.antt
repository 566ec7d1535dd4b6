use Rattle.std.proofs.Common.{rules, ◌≡◌, ◌<◌, ◌≤◌, length, arith}
use Rattle.clmul_lanes.specs.Lane32.{ops}
use Rattle.clmul_lanes.proofs.Added.{none_added, one_added, all_added}
use Rattle.clmul_lanes.proofs.FractionSteps.{next_numerator_is, term_added}
use Rattle.clmul_lanes.proofs.fractions.add_terms.Goals as goal

pub loop-i-init : goal.loop-i-init
loop-i-init c = let size : length c.args.first.now ≡ 33 = search rules in
    record { size = size; each = λ es list small is later are. (is, none_added ops es c.args.acc.now) }

pub loop-i-preserved : goal.loop-i-preserved
loop-i-preserved c =
    let size : length c.next_numerator-numerator.result ≡ 33 = search rules in
    let inside : c.loop-i.i < length c.loop-i.acc = omega arith in
    record {
      size = size;
      each = λ es list small is later are. (
        next_numerator_is es list c.loop-i.i c.loop-i.numerator c.next_numerator-numerator.result small later (c.loop-i.invariant.each es list small is later are).0 (c.next_numerator-numerator.ensures.later list are) c.next_numerator-numerator.ensures.last,
        one_added ops es c.loop-i.i c.args.acc.now c.loop-i.acc c.add.result inside
            (term_added es c.loop-i.i c.loop-i.numerator c.loop-i.acc c.index-acc-i.result c.index-numerator-0.result c.add.result c.loop-i.invariant.size inside (c.loop-i.invariant.each es list small is later are).0 c.index-acc-i.is c.add.ensures.sum)
            (c.loop-i.invariant.each es list small is later are).1,
      );
    }

pub returns : goal.returns
returns c es list small is later are =
    let past : length c.args.acc.now ≤ c.loop-i.i = omega arith in
    all_added ops es c.loop-i.i c.args.acc.now c.loop-i.acc past (c.loop-i.invariant.each es list small is later are).1
