use Rattle.std.proofs.Common.{◌≡◌, ◌-◌, List, length}
use Rattle.std.specs.List.{All}
use Rattle.field_rules.specs.Lists.{AreDistinct}
use Rattle.poly_rules.specs.Roots.{with_roots}
use Rattle.sequence_laws.specs.Halves.{evens, odds}
use Rattle.sequence_laws.specs.Sequences.{IsUnit, sequence_of}
use Rattle.trace_sequences.specs.Rows.{AreRows}
use Rattle.trace_sequences.proofs.rows.rows_by_halves.Given as goal

abbrev pub invariant-loop : goal.invariant-loop
invariant-loop g l = record {
  count : length l.rows.items ≡ l.counter;
  sizes : All (λ r. length r ≡ l.n) l.rows.items;
  rows : (es f : List _) (u : _ → _) → AreDistinct es → f ≡ with_roots g.F.Field.ops es → IsUnit g.F.Field.ops u es → length es ≡ l.n
      → l.even ≡ evens f → l.odd ≡ odds f → l.sums ≡ sequence_of g.F.Field.ops u es (length es - 1) (length l.sums)
      → AreRows g.F.Field.ops u es l.rows.items;
}
