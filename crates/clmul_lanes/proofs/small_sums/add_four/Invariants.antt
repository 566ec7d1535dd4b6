use Rattle.std.proofs.Common.{◌≡◌, ◌+◌, ◌*◌, [], ◌∷◌}
use Rattle.field_rules.specs.Ops.{power}
use Rattle.clmul_lanes.specs.Lane32.{ops}
use Rattle.clmul_lanes.proofs.Added.{AreAddedBelow}
use Rattle.clmul_lanes.proofs.small_sums.add_four.Given as goal

abbrev pub invariant-loop-a : goal.invariant-loop-a
invariant-loop-a l = record {
  d_is : l.d_power ≡ power ops l.fn.d (2 * l.a-index + 1);
  e_is : l.e_power ≡ power ops l.fn.e (2 * l.a-index + 1);
  f_is : l.f_power ≡ power ops l.fn.f (2 * l.a-index + 1);
  g_is : l.g_power ≡ power ops l.fn.g (2 * l.a-index + 1);
  added : AreAddedBelow ops (l.fn.d ∷ l.fn.e ∷ l.fn.f ∷ l.fn.g ∷ []) l.a-index l.fn.acc l.acc;
}
