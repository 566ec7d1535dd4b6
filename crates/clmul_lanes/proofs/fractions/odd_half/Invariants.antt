use Rattle.std.proofs.Common.{◌≡◌, ℕ, ◌*◌, ◌<◌, length, slice_index_or}
use Rattle.clmul_lanes.specs.Lane32.{zero_of}
use Rattle.clmul_lanes.proofs.fractions.odd_half.Given as goal

abbrev pub invariant-loop-i : goal.invariant-loop-i
invariant-loop-i l = record {
  size : length l.odd ≡ 16;
  done : (k : ℕ) → k < l.i → slice_index_or l.odd k zero_of ≡ slice_index_or l.locator (2 * k) zero_of;
}
