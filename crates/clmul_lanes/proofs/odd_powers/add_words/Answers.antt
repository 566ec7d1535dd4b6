use Rattle.std.proofs.Common.{◌≡◌, ◌+◌, ◌*◌, ◌<◌, ◌≤◌, length, refl, sym, ap, ◌∙◌, arith, length-set}
use Rattle.field_rules.specs.Ops.{power, with_odd_powers}
use Rattle.clmul_lanes.specs.Lane32.{ops, same_bits}
use Rattle.clmul_lanes.proofs.OddBlocks.{item_added, items_done, power_at}
use Rattle.clmul_lanes.proofs.odd_powers.add_words.Goals as goal

pub loop-j-init : goal.loop-j-init
loop-j-init c = record { long = refl; rest = λ e i is. let same : i + 0 ≡ i = omega arith in ap (λ k. with_odd_powers ops e k c.args.acc.now) same }

pub loop-j-preserved : goal.loop-j-preserved
loop-j-preserved c =
    let inside : c.loop-j.j < length c.loop-j.acc = omega (arith, c.loop-j.invariant.long) in
    let small : c.loop-j.j < 16 = omega (arith, c.loop-j.invariant.long, c.requires) in
    record {
      long = length-set c.loop-j.acc c.loop-j.j c.add.result ∙ c.loop-j.invariant.long;
      rest = λ e i is. let power_is : c.new.result ≡ power ops e (2 * (i + c.loop-j.j) + 1) = same_bits c.new.result (power ops e (2 * (i + c.loop-j.j) + 1)) (c.new.ensures ∙ power_at e i c.loop-j.j c.args.words is small) in
          rw c.add.ensures.sum (item_added e c.new.result c.index-acc-j.result i c.loop-j.j c.loop-j.acc inside c.index-acc-j.is power_is) ∙ c.loop-j.invariant.rest e i is;
    }

pub returns : goal.returns
returns c e i is = let past : length c.loop-j.acc ≤ c.loop-j.j = omega (arith, c.loop-j.invariant.long) in
    sym (items_done e i c.loop-j.j c.loop-j.acc past) ∙ c.loop-j.invariant.rest e i is
