use Rattle.std.proofs.Common.{◌<◌, ◌≤◌, length, sym, ◌∙◌, drop, arith}
use Rattle.sketch_core.proofs.Both.{both_more, both_done}
use Rattle.sketch_core.proofs.sketch.add_each.Goals as goal

pub loop-i-preserved : goal.loop-i-preserved
loop-i-preserved g c =
    let inside : c.loop-i.i < length c.loop-i.sums = omega arith in
    let below : c.loop-i.i < length c.args.more.now = omega arith in
    rw c.add.ensures.sum (both_more g.F.Field.ops c.index-sums-i.result c.index-more-i.result c.loop-i.i c.loop-i.sums c.args.more.now inside below c.index-more-i.is ∙ c.loop-i.invariant)

pub returns : goal.returns
returns g c =
    let past : length c.loop-i.sums ≤ c.loop-i.i = omega arith in
    sym (both_done g.F.Field.ops c.loop-i.i c.loop-i.sums (drop c.loop-i.i c.args.more.now) past) ∙ c.loop-i.invariant
