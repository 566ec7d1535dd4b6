use Rattle.std.proofs.Common.{[], ◌∷◌, ◌<◌, ◌≤◌, length, refl, ◌∙◌, arith, length-set}
use Rattle.list_multiples.proofs.Sums.{None, More, sums_more, sums_done}
use Rattle.list_multiples.proofs.rows.add_each.Goals as goal

pub loop-i-preserved : goal.loop-i-preserved
loop-i-preserved g c =
    let lt : c.loop-i.i < length c.args.x.now = omega (arith, c.loop-i.invariant.paired) in
    record {
      paired = length-set c.loop-i.acc c.loop-i.i c.add.result ∙ c.loop-i.invariant.paired;
      rest = rw c.add.ensures.sum
          (sums_more g.F.Field.ops c.loop-i.i (length c.args.x.now) c.index-acc-i.result c.loop-i.acc (c.index-x-i.result ∷ []) (c.args.x.now ∷ []) lt (More c.loop-i.invariant.paired c.index-acc-i.is (More refl c.index-x-i.is None)) ∙ c.loop-i.invariant.rest);
    }

pub returns : goal.returns
returns g c = let past : length c.loop-i.acc ≤ c.loop-i.i = omega (arith, c.loop-i.invariant.paired) in
    sums_done g.F.Field.ops c.loop-i.i c.loop-i.acc (c.args.x.now ∷ []) past c.loop-i.invariant.rest
