use Rattle.std.proofs.Common.{◌≡◌, ℕ, ◌<◌, [], length, get_or}
use Rattle.splitting_laws.specs.Parts.{IsCorrelation}
use Rattle.trace_sequences.proofs.correlations.all_correlations.Given as goal

abbrev pub invariant-loop-sequence : goal.invariant-loop-sequence
invariant-loop-sequence g l = record {
  size : length l.found.items ≡ l.sequence-index;
  each : (i : ℕ) → i < l.sequence-index → IsCorrelation g.F.Field.ops l.items (get_or l.sequences i []) l.n (get_or l.found.items i []);
}
