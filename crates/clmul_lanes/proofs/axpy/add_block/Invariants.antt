use Rattle.std.proofs.Common.{◌≡◌, ◌++◌, length, take, drop}
use Rattle.field_rules.specs.Fields.{with_multiple}
use Rattle.clmul_lanes.specs.declared.lane32.Lane32.{Lane32}
use Rattle.clmul_lanes.specs.Lane32.{ops, bits_of}
use Rattle.clmul_lanes.specs.Tables.{AreByteTables}
use Rattle.clmul_lanes.proofs.axpy.add_block.Given as goal

abbrev pub invariant-loop-i : goal.invariant-loop-i
invariant-loop-i l = record {
  paired : length l.acc ≡ length l.x;
  rest : (k : Lane32) → AreByteTables (bits_of k) l.tables → take l.i l.acc ++ with_multiple ops (drop l.i l.acc) k (drop l.i l.x) ≡ with_multiple ops l.fn.acc k l.x;
}
