use Rattle.std.proofs.Common.{◌<◌, ◌≤◌, length, drop, sym, ◌∙◌, arith}
use Rattle.field_laws.proofs.Dots.{dot_of-more, dot_of-done}
use Rattle.field_core.proofs.field.Field.dot.Goals as goal

pub loop-i-preserved : goal.loop-i-preserved
loop-i-preserved g c =
    let inside : c.loop-i.i < length c.args.x.now = omega arith in
    let within : c.loop-i.i < length c.args.y.now = omega arith in
    rw (c.add-sum.ensures.sum, c.mul.ensures.times) (dot_of-more g.Self.Field.ops g.met.Self.Field.ring c.loop-i.sum c.index-x-i.result c.index-y-i.result c.loop-i.i c.args.x.now c.args.y.now inside within c.index-x-i.is c.index-y-i.is ∙ c.loop-i.invariant)

pub returns : goal.returns
returns g c = let past : length c.args.x.now ≤ c.loop-i.i = omega arith in
    sym (dot_of-done g.Self.Field.ops g.met.Self.Field.ring c.loop-i.sum c.loop-i.i c.args.x.now (drop c.loop-i.i c.args.y.now) past) ∙ c.loop-i.invariant
