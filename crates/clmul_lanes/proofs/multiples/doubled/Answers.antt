use Rattle.std.proofs.Common.{rules, ◌^◌, ◌<◌}
use Rattle.clmul_lanes.proofs.Nibbles.{doubled_is}
use Rattle.clmul_lanes.proofs.multiples.doubled.Goals as goal

pub returns : goal.returns
returns c = let fits : c.args.a < 2 ^ 32 = search rules in doubled_is c.args.a fits
