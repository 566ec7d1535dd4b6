use Rattle.clmul_lanes.proofs.LaneLists.{halves_are}
use Rattle.clmul_lanes.proofs.lanes.upper_halves.Goals as goal

pub returns : goal.returns
returns c = halves_are c.args.bytes c.fits-bytes.0
