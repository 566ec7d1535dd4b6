use Rattle.clmul_lanes.proofs.FourLanes.{folds_are}
use Rattle.clmul_lanes.proofs.products.folded4.Goals as goal

pub returns : goal.returns
returns c = folds_are c.args.p c.fits-p.0 c.fits-p.1
