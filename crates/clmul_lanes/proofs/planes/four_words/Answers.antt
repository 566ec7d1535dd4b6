use Rattle.clmul_lanes.proofs.PlaneLists.{four_words_are}
use Rattle.clmul_lanes.proofs.planes.four_words.Goals as goal

pub returns : goal.returns
returns c = four_words_are c.args.bytes c.fits-bytes.1
