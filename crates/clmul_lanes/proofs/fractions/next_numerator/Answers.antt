use Rattle.std.proofs.Common.{rules, ◌≡◌, ◌≢◌, ◌<◌, ◌^◌, length, subst, ◌∙◌, arith, length-set, get_or-set_other}
use Rattle.clmul_lanes.specs.Lane32.{zero_of}
use Rattle.clmul_lanes.proofs.FractionSteps.{next_made}
use Rattle.clmul_lanes.proofs.fractions.next_numerator.Goals as goal

pub loop-j-preserved : goal.loop-j-preserved
loop-j-preserved c =
    let size : length c.args.numerator.now ≡ 33 = search rules in
    let below : c.loop-j.j < 32 = omega arith in
    record {
      size = length-set c.loop-j.next c.loop-j.j c.add.result ∙ c.loop-j.invariant.size;
      last = (let other : 32 ≢ c.loop-j.j = omega arith in get_or-set_other c.loop-j.next c.loop-j.j 32 c.add.result zero_of other ∙ c.loop-j.invariant.last);
      done = λ list are. next_made c.args.numerator.now c.loop-j.next list c.loop-j.j c.product_at.result c.get-k.result c.index-numerator-j.result c.index-numerator-0.result c.new.result c.add.result size c.loop-j.invariant.size below
          c.index-numerator-j.is c.index-numerator-0.is c.get-k.ensures
          (λ d is. c.product_at.ensures list are (subst (λ z. z < 2 ^ 32) is d.small))
          c.new.ensures c.add.ensures.sum (c.loop-j.invariant.done list are);
    }
