use Rattle.std.proofs.Common.{◌≡◌, ◌++◌, take, drop, map}
use Rattle.field_core.proofs.field.Field.square_each.Given as goal

abbrev pub invariant-loop-a : goal.invariant-loop-a
invariant-loop-a g l = l.x ≡ map (λ a. g.Self.Field.ops.times a a) (take l.a-index l.fn.x) ++ drop l.a-index l.fn.x
