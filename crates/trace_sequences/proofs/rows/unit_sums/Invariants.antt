use Rattle.std.proofs.Common.{◌≡◌, ◌-◌, List, length}
use Rattle.poly_rules.specs.Roots.{with_roots}
use Rattle.sequence_laws.specs.Sequences.{IsUnit, sequence_of}
use Rattle.trace_sequences.proofs.rows.unit_sums.Given as goal

abbrev pub invariant-loop-i : goal.invariant-loop-i
invariant-loop-i g l = record {
  size : length l.sums.items ≡ l.i;
  sums : (es : List _) (u : _ → _) → l.f ≡ with_roots g.F.Field.ops es → IsUnit g.F.Field.ops u es → l.sums.items ≡ sequence_of g.F.Field.ops u es (length es - 1) l.i;
}
