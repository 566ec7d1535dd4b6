use Rattle.clmul_lanes.proofs.PlaneLists.{bytes_in_turn_are}
use Rattle.clmul_lanes.proofs.planes.bytes_in_turn.Goals as goal

pub returns : goal.returns
returns c = bytes_in_turn_are c.args.words c.fits-words.0 c.fits-words.1
