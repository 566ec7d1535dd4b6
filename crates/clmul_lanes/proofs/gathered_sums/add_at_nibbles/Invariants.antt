use Rattle.std.proofs.Common.{◌≡◌, length}
use Rattle.clmul_lanes.proofs.GatheredSums.{AreAddedAt}
use Rattle.clmul_lanes.proofs.gathered_sums.add_at_nibbles.Given as goal

abbrev pub invariant-loop-i : goal.invariant-loop-i
invariant-loop-i l = record {
  size : length l.sums ≡ 128;
  added : AreAddedAt l.i l.fn.key l.value l.fn.sums l.sums;
}
