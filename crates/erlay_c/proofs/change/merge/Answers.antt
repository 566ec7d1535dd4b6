use Rattle.std.proofs.Common.{arith}
use Rattle.clmul_lanes.specs.Lane32.{bits_of}
use Rattle.erlay_c.proofs.Lengths.{length-items}
use Rattle.erlay_c.proofs.change.merge.Goals as goal

pub merge_into-requires : goal.merge_into-requires
merge_into-requires c =
    let other = length-items bits_of c.in_ok-other.other c.args.theirs.now c.in_ok-other.ensures.1 c.in_ok-other.ensures.0.2 in
    let sketch = length-items bits_of c.in_ok-sketch.sketch c.args.ours.now c.in_ok-sketch.ensures.1 c.in_ok-sketch.ensures.0.2 in
    omega arith
