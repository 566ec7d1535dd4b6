use Rattle.poly_rules.specs.Recurrences.{IsExtension}
use Rattle.poly_ops.proofs.recurrence.extend_recurrence.Given as goal

abbrev pub invariant-loop-i : goal.invariant-loop-i
invariant-loop-i g l = IsExtension g.F.Field.ops l.f l.sums l.i l.values.items
