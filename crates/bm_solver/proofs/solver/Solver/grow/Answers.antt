use Rattle.std.proofs.Common.{length, arith, ap, length-append}
use Rattle.std.proofs.lemmas.List.{length-replicate}
use Rattle.bm_solver.proofs.solver.Solver.grow.Goals as goal

pub add-requires : goal.add-requires
add-requires g c = record {
  coefficients = omega (arith, simp (length-append, length-replicate) at (ap length c.in_ok-set_raised.ensures.monic));
  next = (omega arith, omega arith);
  sizes = omega arith;
}
