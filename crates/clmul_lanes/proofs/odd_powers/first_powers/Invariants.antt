use Rattle.std.proofs.Common.{◌≡◌, ℕ, ◌+◌, ◌*◌, ◌<◌, length, slice_index}
use Rattle.field_rules.specs.Ops.{power}
use Rattle.clmul_lanes.specs.Lane32.{ops, bits_of}
use Rattle.clmul_lanes.proofs.odd_powers.first_powers.Given as goal

abbrev pub invariant-loop-j : goal.invariant-loop-j
invariant-loop-j l = record {
  long : length l.words ≡ 16;
  power_is : l.power ≡ power ops l.fn.e (2 * l.j + 1);
  done : (k : ℕ) → k < l.j → slice_index l.words k ≡ bits_of (power ops l.fn.e (2 * k + 1));
}
