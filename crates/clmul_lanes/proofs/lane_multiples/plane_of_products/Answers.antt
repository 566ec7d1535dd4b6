use Rattle.std.proofs.Common.{lit<}
use Rattle.clmul_lanes.proofs.LaneProducts.{bytes_by_looks, lower_looks, upper_looks}
use Rattle.clmul_lanes.proofs.lane_multiples.plane_of_products.Goals as goal

pub returns : goal.returns
returns c factor words fits tables each are =
    bytes_by_looks factor fits c.args.t.now tables c.args.index c.requires words _ _ _ _ _ _ _ _ each
    (lower_looks _ words _ _ 0 (are 0 (lit< tt)) c.looked_up.ensures)
    (upper_looks _ words _ _ _ 0 (are 0 (lit< tt)) c.upper_halves.ensures c.looked_up-2.ensures)
    (lower_looks _ words _ _ 1 (are 1 (lit< tt)) c.looked_up-3.ensures)
    (upper_looks _ words _ _ _ 1 (are 1 (lit< tt)) c.upper_halves-2.ensures c.looked_up-4.ensures)
    (lower_looks _ words _ _ 2 (are 2 (lit< tt)) c.looked_up-5.ensures)
    (upper_looks _ words _ _ _ 2 (are 2 (lit< tt)) c.upper_halves-3.ensures c.looked_up-6.ensures)
    (lower_looks _ words _ _ 3 (are 3 (lit< tt)) c.looked_up-7.ensures)
    (upper_looks _ words _ _ _ 3 (are 3 (lit< tt)) c.upper_halves-4.ensures c.looked_up-8.ensures)
