use Rattle.std.proofs.Common.{◌≡◌, ℕ, ◌<◌, length, get_or, slice_index}
use Rattle.clmul_lanes.specs.Lane32.{bits_of, zero_of}
use Rattle.clmul_lanes.proofs.axpy.bits_in.Given as goal

abbrev pub invariant-loop-i : goal.invariant-loop-i
invariant-loop-i l = record {
  long : length l.words ≡ 16;
  done : (j : ℕ) → j < l.i → slice_index l.words j ≡ bits_of (get_or l.x j zero_of);
}
