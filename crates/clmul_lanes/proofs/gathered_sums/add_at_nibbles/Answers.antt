use Rattle.std.proofs.Common.{◌≡◌, ◌+◌, ◌*◌, ◌/◌, ◌%◌, ◌^◌, ap, refl, ◌∙◌, arith, length-set}
use Rattle.clmul_lanes.proofs.GatheredSums.{no_nibble_added, nibble_added, all_added_at}
use Rattle.clmul_lanes.proofs.gathered_sums.add_at_nibbles.Goals as goal

pub loop-i-init : goal.loop-i-init
loop-i-init c = record { size = c.told-sums; added = no_nibble_added c.args.key c.args.value c.args.sums.now }

pub loop-i-preserved : goal.loop-i-preserved
loop-i-preserved c = record {
  size = length-set c.loop-i.sums (16 * c.loop-i.i + c.nibble.result) c.add.result ∙ c.loop-i.invariant.size;
  added = nibble_added c.loop-i.i (16 * c.loop-i.i + c.nibble.result) c.nibble.result c.args.key c.args.value c.add.result c.args.sums.now c.loop-i.sums c.index-sums-at.result c.loop-i-test.true c.nibble.ensures.below
      (c.nibble.ensures.value ∙ ap (λ z. z / 2 ^ (4 * c.loop-i.i) % 16) c.get-bits.ensures) refl c.loop-i.invariant.size c.add.ensures.sum c.loop-i.invariant.added;
}

pub returns : goal.returns
returns c = let end : c.loop-i.i ≡ 8 = omega arith in all_added_at c.loop-i.i c.args.key c.args.value c.args.sums.now c.loop-i.sums end c.loop-i.invariant.added
