use Rattle.clmul_lanes.specs.Lane32.{ops}
use Rattle.clmul_lanes.proofs.Added.{AreAddedBelow}
use Rattle.clmul_lanes.proofs.gathered_sums.add_gathered.Given as goal

abbrev pub invariant-loop-i : goal.invariant-loop-i
invariant-loop-i l = AreAddedBelow ops l.elements l.i l.fn.acc l.acc
