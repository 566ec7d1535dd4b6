use Rattle.std.proofs.Common.{◌≡◌, ℕ, ◌<◌, length, slice_index_or}
use Rattle.field_rules.specs.Fields.{conjugate}
use Rattle.clmul_lanes.specs.Lane32.{ops, zero_of}
use Rattle.clmul_lanes.proofs.gathered_sums.eighth_powers.Given as goal

abbrev pub invariant-loop-r : goal.invariant-loop-r
invariant-loop-r l = record {
  size : length l.powers ≡ 128;
  done : (k : ℕ) → k < l.r → slice_index_or l.powers k zero_of ≡ conjugate ops 3 (slice_index_or l.list k zero_of);
}
