use Rattle.std.proofs.Common.{◌+◌, ◌*◌, ◌<◌, ◌≤◌, length, arith}
use Rattle.sketch_bytes.proofs.Reading.{taken_more, taken_all}
use Rattle.sketch_bytes.proofs.sums_of.Goals as goal

pub loop-i-preserved : goal.loop-i-preserved
loop-i-preserved g c =
    let inside : 4 * c.loop-i.i + 3 < length c.args.bytes.now = omega arith in
    taken_more g.F.Field.bits_of c.loop-i.i c.args.bytes.now c.loop-i.sums.items c.push.new.self.items c.from_bits.result c.from_le_bytes-word.result inside c.in_ok-push.ensures.items c.from_bits.ensures c.from_le_bytes-word.ensures c.loop-i.invariant

pub returns : goal.returns
returns g c =
    let past : length c.args.bytes.now ≤ 4 * c.loop-i.i = omega arith in
    taken_all g.F.Field.bits_of (4 * c.loop-i.i) c.args.bytes.now c.loop-i.sums.items past c.loop-i.invariant
