use Rattle.std.proofs.Common.{◌≡◌, ◌+◌, List, length}
use Rattle.std.specs.List.{All}
use Rattle.trace_sequences.specs.Rows.{AreRows, AreTraceSequences}
use Rattle.trace_sequences.proofs.traces.trace_sequences.Given as goal

abbrev pub invariant-loop-j : goal.invariant-loop-j
invariant-loop-j g l = record {
  count : l.exponent + length l.traces.items ≡ l.j;
  sizes : All (λ t. length t ≡ l.n) l.traces.items;
  each : (u : _ → _) (es : List _) → length es ≡ l.n → AreRows g.F.Field.ops u es l.rows
      → AreTraceSequences g.F.Field.ops g.F.Field.bits_of g.F.Field.BITS l.exponent u es l.traces.items;
}
