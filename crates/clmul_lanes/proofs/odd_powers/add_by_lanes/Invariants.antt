use Rattle.std.proofs.Common.{◌≡◌, ◌*◌, ◌++◌, take, drop}
use Rattle.field_rules.specs.Ops.{with_odd_powers}
use Rattle.clmul_lanes.specs.Lane32.{ops}
use Rattle.clmul_lanes.specs.Planes.{ArePlanes}
use Rattle.clmul_lanes.specs.OddPowers.{bits_of_odd_powers}
use Rattle.clmul_lanes.proofs.odd_powers.add_by_lanes.Given as goal

abbrev pub invariant-loop-n : goal.invariant-loop-n
invariant-loop-n l = record {
  powers : ArePlanes (bits_of_odd_powers l.fn.e (16 * l.n)) l.planes;
  rest : take (16 * l.n) l.acc ++ with_odd_powers ops l.fn.e (16 * l.n) (drop (16 * l.n) l.acc) ≡ with_odd_powers ops l.fn.e 0 l.fn.acc;
}
