use Rattle.std.proofs.Common.{lit<}
use Rattle.clmul_lanes.proofs.ByteUp.{planes_up}
use Rattle.clmul_lanes.proofs.planes.byte_up.Goals as goal

pub returns : goal.returns
returns c words each are =
    planes_up words _ _ _ _ each (are 0 (lit< tt)) (are 1 (lit< tt)) (are 2 (lit< tt)) (are 3 (lit< tt)) _ _ _ _ _ c.upper_halves-upper.ensures c.looked_up.ensures c.looked_up-2.ensures c.looked_up-3.ensures c.looked_up-4.ensures
