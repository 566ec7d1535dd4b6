use Rattle.std.proofs.Common.{◌≡◌, ℕ, ◌≤◌, List, length}
use Rattle.clmul_lanes.specs.declared.lane32.Lane32.{Lane32}
use Rattle.clmul_lanes.specs.Lane32.{ops}
use Rattle.clmul_lanes.specs.Rows.{AreRows}
use Rattle.clmul_lanes.specs.Fractions.{IsNumerator, IsLaterDenominator}
use Rattle.clmul_lanes.proofs.Added.{AreAddedBelow}
use Rattle.clmul_lanes.proofs.fractions.add_terms.Given as goal

abbrev pub invariant-loop-i : goal.invariant-loop-i
invariant-loop-i l = record {
  size : length l.numerator ≡ 33;
  each : (es : List Lane32) (list : List ℕ) → length es ≤ 32 → IsNumerator 0 es l.first → IsLaterDenominator es list → AreRows list l.rows
      → (IsNumerator l.i es l.numerator) × (AreAddedBelow ops es l.i l.fn.acc l.acc);
}
