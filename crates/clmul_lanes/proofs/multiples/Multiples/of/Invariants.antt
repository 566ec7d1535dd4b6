use Rattle.std.proofs.Common.{◌≡◌, ℕ, ◌*◌, ◌^◌, ◌<◌, [], length, slice_index_or}
use Rattle.field_rules.specs.Elements.{product}
use Rattle.clmul_lanes.specs.Tables.{IsTable}
use Rattle.clmul_lanes.proofs.multiples.Multiples.of.Given as goal

abbrev pub invariant-loop-table : goal.invariant-loop-table
invariant-loop-table l = record {
  long : length l.table-items ≡ 8;
  shifted_is : l.table-index < 8 → l.shifted ≡ product 32 l.factor (2 ^ (4 * l.table-index));
  done : (i : ℕ) → i < l.table-index → IsTable l.factor i (slice_index_or l.table-items i []);
}
