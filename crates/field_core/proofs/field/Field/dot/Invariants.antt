use Rattle.std.proofs.Common.{◌≡◌, drop}
use Rattle.field_rules.specs.Fields.{dot_of}
use Rattle.field_core.proofs.field.Field.dot.Given as goal

abbrev pub invariant-loop-i : goal.invariant-loop-i
invariant-loop-i g l = g.Self.Field.ops.plus l.sum (dot_of g.Self.Field.ops (drop l.i l.x) (drop l.i l.y)) ≡ dot_of g.Self.Field.ops l.x l.y
