use Rattle.std.proofs.Common.{◌≡◌, ℕ, suc, ◌<◌, length, slice_index_or}
use Rattle.clmul_lanes.specs.Lane32.{zero_of, one_of}
use Rattle.clmul_lanes.proofs.fractions.moved_up.Given as goal

abbrev pub invariant-loop-j : goal.invariant-loop-j
invariant-loop-j l = record {
  size : length l.moved ≡ 32;
  first : slice_index_or l.moved 0 zero_of ≡ one_of;
  done : (k : ℕ) → k < l.j → slice_index_or l.moved (suc k) zero_of ≡ slice_index_or l.locator k zero_of;
}
