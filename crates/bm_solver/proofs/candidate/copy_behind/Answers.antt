use Rattle.std.proofs.Common.{refl, arith}
use Rattle.bm_solver.proofs.Multiples.{length-copied, copied_at}
use Rattle.bm_solver.proofs.candidate.copy_behind.Goals as goal

pub returns-clause-size : goal.returns-clause-size
returns-clause-size g c =
    length-copied c.args.acc.now c.copy_from_slice.new.self c.args.items.now c.args.next _ _ refl (omega arith) c.requires.next c.requires.sizes c.copy_from_slice.ensures.after

pub returns-clause-each : goal.returns-clause-each
returns-clause-each g c j from lt =
    copied_at c.args.acc.now c.copy_from_slice.new.self c.args.items.now c.args.next _ _ refl (omega arith) c.requires.next c.requires.sizes c.copy_from_slice.ensures.after j g.F.Field.ops.zero from lt
