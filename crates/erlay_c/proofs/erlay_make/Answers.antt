use Rattle.std.proofs.Common.{length}
use Rattle.erlay_c.proofs.Lengths.{make_fits}
use Rattle.erlay_c.proofs.erlay_make.Goals as goal

pub write_front-requires : goal.write_front-requires
write_front-requires c = make_fits c.args.elements.now c.args.capacity (length c.args.sketch.now) c.make-outcome.result c.make-outcome.ensures
