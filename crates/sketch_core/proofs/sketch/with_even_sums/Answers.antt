use Rattle.std.proofs.Common.{◌<◌, length, get_or, ◌∙◌, ap, arith}
use Rattle.sketch_core.proofs.AllSums.{all_sums-more}
use Rattle.sketch_core.proofs.sketch.with_even_sums.Goals as goal

pub loop-i-preserved : goal.loop-i-preserved
loop-i-preserved g c =
    let inside : c.loop-i.i < length c.args.odd.now = omega arith in
    rw (c.in_ok-push-2.ensures.items, c.square.ensures, c.in_ok-push.ensures.items)
    (all_sums-more g.F.Field.ops c.args.odd.now c.loop-i.sums.items c.loop-i.i c.index-odd-i.result c.index-half.result.now c.loop-i.invariant inside c.index-odd-i.is
    (c.index-half.ensures ∙ ap (λ items. get_or items c.loop-i.i c.index-half.result.now) c.in_ok-push.ensures.items))
