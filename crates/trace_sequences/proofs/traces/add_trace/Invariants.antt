use Rattle.std.proofs.Common.{◌≡◌, List, length}
use Rattle.field_rules.specs.Fields.{conjugate, trace_of}
use Rattle.sequence_laws.specs.Sequences.{sequence_of}
use Rattle.trace_sequences.specs.Rows.{AreRows}
use Rattle.trace_sequences.proofs.traces.add_trace.Given as goal

abbrev pub invariant-loop-i : goal.invariant-loop-i
invariant-loop-i g l = record {
  power : l.power ≡ conjugate g.F.Field.ops l.i l.fn.b;
  sum : (u : _ → _) (es : List _) → length es ≡ length l.fn.sum → AreRows g.F.Field.ops u es l.rows
      → l.sum ≡ sequence_of g.F.Field.ops (λ e. g.F.Field.ops.times (trace_of g.F.Field.ops l.i (g.F.Field.ops.times l.fn.b e)) (u e)) es 0 (length es);
}
