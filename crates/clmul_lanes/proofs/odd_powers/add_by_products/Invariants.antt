use Rattle.std.proofs.Common.{◌≡◌, ◌+◌, ◌*◌, ◌++◌, take, drop}
use Rattle.field_rules.specs.Ops.{power, with_odd_powers}
use Rattle.clmul_lanes.specs.Lane32.{ops}
use Rattle.clmul_lanes.proofs.odd_powers.add_by_products.Given as goal

abbrev pub invariant-loop-a : goal.invariant-loop-a
invariant-loop-a l = record {
  power_is : l.power ≡ power ops l.fn.e (2 * l.a-index + 1);
  rest : take l.a-index l.acc ++ with_odd_powers ops l.fn.e l.a-index (drop l.a-index l.acc) ≡ with_odd_powers ops l.fn.e 0 l.fn.acc;
}
