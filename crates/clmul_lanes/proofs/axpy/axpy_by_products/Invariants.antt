use Rattle.std.proofs.Common.{◌≡◌, ◌++◌, length, take, drop}
use Rattle.field_rules.specs.Fields.{with_multiple}
use Rattle.clmul_lanes.specs.Lane32.{ops}
use Rattle.clmul_lanes.proofs.axpy.axpy_by_products.Given as goal

abbrev pub invariant-loop-i : goal.invariant-loop-i
invariant-loop-i l = record {
  paired : length l.acc ≡ length l.x;
  rest : take l.i l.acc ++ with_multiple ops (drop l.i l.acc) l.fn.k (drop l.i l.x) ≡ with_multiple ops l.fn.acc l.fn.k l.x;
}
