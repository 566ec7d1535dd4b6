use Rattle.std.proofs.Common.{rules, ◌≡◌, ◌<◌, ◌^◌, slice_index, arith}
use Rattle.clmul_lanes.proofs.FourLanes.{none_of, four_next, four_at}
use Rattle.clmul_lanes.proofs.products.product4.Goals as goal

pub loop-i-init : goal.loop-i-init
loop-i-init c = none_of (slice_index c.args.a) (slice_index c.args.b)

pub loop-i-preserved : goal.loop-i-preserved
loop-i-preserved c =
    let inside : c.loop-i.i < 32 = omega arith in
    let a0 : slice_index c.args.a 0 < 2 ^ 32 = search rules in
    let a1 : slice_index c.args.a 1 < 2 ^ 32 = search rules in
    let a2 : slice_index c.args.a 2 < 2 ^ 32 = search rules in
    let a3 : slice_index c.args.a 3 < 2 ^ 32 = search rules in
    four_next c.loop-i.i (slice_index c.args.a) (slice_index c.args.b) c.loop-i.sum inside a0 a1 a2 a3 c.loop-i.invariant

pub returns : goal.returns
returns c = let end : c.loop-i.i ≡ 32 = omega arith in
    four_at c.loop-i.i (slice_index c.args.a) (slice_index c.args.b) c.loop-i.sum end c.loop-i.invariant
