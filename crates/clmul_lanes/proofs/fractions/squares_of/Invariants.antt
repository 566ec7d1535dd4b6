use Rattle.std.proofs.Common.{◌≡◌, ℕ, ◌<◌, length, slice_index, slice_index_or}
use Rattle.clmul_lanes.specs.Lane32.{ops, bits_of, zero_of}
use Rattle.clmul_lanes.proofs.fractions.squares_of.Given as goal

abbrev pub invariant-loop-j : goal.invariant-loop-j
invariant-loop-j l = record {
  size : length l.squares ≡ 32;
  done : (k : ℕ) → k < l.j → slice_index l.squares k ≡ bits_of (ops.times (slice_index_or l.locator k zero_of) (slice_index_or l.locator k zero_of));
}
