use Rattle.std.proofs.Common.{refl, arith}
use Rattle.bm_solver.proofs.Multiples.{multiple_at}
use Rattle.bm_solver.proofs.candidate.add_behind.Goals as goal

pub returns-clause-each : goal.returns-clause-each
returns-clause-each g c j from lt =
    multiple_at g.F.Field.ops g.met.F.Field.ring c.args.acc.now c.axpy.new.acc c.args.items.now c.args.next c.args.behind _ _ j c.args.k refl (omega arith) (omega arith) (omega arith) c.axpy.ensures from lt
