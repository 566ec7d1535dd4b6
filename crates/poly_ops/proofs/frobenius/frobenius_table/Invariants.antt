use Rattle.std.proofs.Common.{[], ◌∷◌, ◌++◌}
use Rattle.poly_rules.specs.Remainders.{IsFrobeniusTable}
use Rattle.poly_ops.proofs.frobenius.frobenius_table.Given as goal

abbrev pub invariant-loop : goal.invariant-loop
invariant-loop g l = IsFrobeniusTable g.F.Field.ops l.f l.counter (l.table.items ++ l.power ∷ [])
