use Rattle.clmul_lanes.proofs.LaneLists.{look_ups_ok, look_ups_are}
use Rattle.clmul_lanes.proofs.lanes.looked_up.Goals as goal

pub swizzle : goal.swizzle
swizzle c = look_ups_ok c.args.bytes c.fits-bytes.0

pub returns : goal.returns
returns c = look_ups_are c.args.bytes c.fits-bytes.0 c.args.table
