use Rattle.std.proofs.Common.{◌≡◌, ℕ, ◌*◌, ◌^◌, ◌<◌, length, slice_index}
use Rattle.field_rules.specs.Elements.{product}
use Rattle.clmul_lanes.specs.Rows.{AreRowsBelow}
use Rattle.clmul_lanes.proofs.rows.fill_rows.Given as goal

abbrev pub invariant-loop-i : goal.invariant-loop-i
invariant-loop-i l = record {
  size : length l.firsts ≡ 32;
  firsts : l.i < 8 → (j : ℕ) → j < 32 → slice_index l.list j < 2 ^ 32 → slice_index l.firsts j ≡ product 32 (slice_index l.list j) (2 ^ (4 * l.i));
  done : AreRowsBelow (16 * l.i) l.list l.rows;
}
