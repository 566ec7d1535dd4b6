use Rattle.std.proofs.Common.{◌≡◌, length, arith}
use Rattle.clmul_lanes.proofs.PlaneLists.{planes_are}
use Rattle.clmul_lanes.proofs.planes.planes_of.Goals as goal

pub returns : goal.returns
returns c = let long : length c.args.words ≡ 16 = omega arith in
    planes_are c.args.words c.bytes_in_turn-a.result c.bytes_in_turn-b.result c.bytes_in_turn-c.result c.bytes_in_turn-d.result long c.bytes_in_turn-a.ensures c.bytes_in_turn-b.ensures c.bytes_in_turn-c.ensures c.bytes_in_turn-d.ensures
