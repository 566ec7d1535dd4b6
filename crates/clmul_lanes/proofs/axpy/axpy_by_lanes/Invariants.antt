use Rattle.std.proofs.Common.{◌≡◌, ◌*◌, ◌++◌, take, drop}
use Rattle.field_rules.specs.Fields.{with_multiple}
use Rattle.clmul_lanes.specs.Lane32.{ops}
use Rattle.clmul_lanes.proofs.axpy.axpy_by_lanes.Given as goal

abbrev pub invariant-loop-n : goal.invariant-loop-n
invariant-loop-n l =
    take (16 * l.n) l.acc ++ with_multiple ops (drop (16 * l.n) l.acc) l.fn.k (drop (16 * l.n) l.x) ≡ with_multiple ops l.fn.acc l.fn.k l.x
