use Rattle.erlay_c.proofs.Lengths.{toggle_fits}
use Rattle.erlay_c.proofs.Found.{toggled_set}
use Rattle.erlay_c.proofs.erlay_toggle.Goals as goal

pub write_front-requires : goal.write_front-requires
write_front-requires c = toggle_fits c.args.sketch.now c.args.element c.toggle-outcome.result c.toggle-outcome.ensures

pub returns-clause-set : goal.returns-clause-set
returns-clause-set c xs n set is done =
    toggled_set c.args.sketch.now c.write_front.new.buffer c.write_front.result c.args.element c.toggle-outcome.result c.toggle-outcome.ensures c.write_front.ensures.code c.write_front.ensures.buffer xs n c.ranges.element.fits set is done
