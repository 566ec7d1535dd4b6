use Rattle.std.proofs.Common.{◌≡◌, ℕ, ◌*◌, ◌/◌, ◌%◌, ◌^◌, ◌<◌, length, slice_index_or}
use Rattle.clmul_lanes.specs.Lane32.{bits_of, zero_of}
use Rattle.clmul_lanes.proofs.gathered_sums.nibble_values.Given as goal

abbrev pub invariant-loop-r : goal.invariant-loop-r
invariant-loop-r l = record {
  size : length l.values ≡ 128;
  done : (k : ℕ) → k < l.r → bits_of (slice_index_or l.values k zero_of) ≡ k % 16 * 2 ^ (4 * (k / 16));
}
