use Rattle.std.proofs.Common.{rules, ◌^◌, ◌<◌}
use Rattle.clmul_lanes.proofs.Nibbles.{sixteen_are}
use Rattle.clmul_lanes.proofs.multiples.nibble_multiples.Goals as goal

pub returns : goal.returns
returns c = let fits : c.args.one < 2 ^ 32 = search rules in
    sixteen_are c.args.one c.doubled-two.result c.doubled-four.result c.doubled-eight.result fits c.doubled-two.ensures c.doubled-four.ensures c.doubled-eight.ensures
