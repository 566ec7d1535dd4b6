use Rattle.std.proofs.Common.{◌+◌, ◌-◌, length, arith}
use Rattle.bm_solver.proofs.Multiples.{multiple_added}
use Rattle.bm_solver.proofs.candidate.add_multiple.Goals as goal

pub returns : goal.returns
returns g c =
    multiple_added g.F.Field.ops g.met.F.Field.ring c.args.acc.now c.axpy.new.acc c.args.f.now c.args.shift (c.args.shift + length c.args.f.now - c.args.shift) c.args.k (omega arith) (omega arith) c.axpy.ensures
