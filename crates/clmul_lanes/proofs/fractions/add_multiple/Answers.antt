use Rattle.clmul_lanes.specs.Lane32.{ops}
use Rattle.clmul_lanes.proofs.Blocks.{front_added}
use Rattle.clmul_lanes.proofs.fractions.add_multiple.Goals as goal

pub returns : goal.returns
returns c = front_added ops c.args.k c.args.acc.now c.args.x.now c.axpy.new.acc c.axpy.ensures
