use Rattle.std.proofs.Common.{◌≡◌, ℕ, suc, ◌<◌, List, length, slice_index, slice_index_or}
use Rattle.clmul_lanes.specs.declared.lane32.Lane32.{Lane32}
use Rattle.clmul_lanes.specs.Lane32.{ops, bits_of, zero_of}
use Rattle.clmul_lanes.specs.Rows.{AreRows}
use Rattle.clmul_lanes.proofs.fractions.next_numerator.Given as goal

abbrev pub invariant-loop-j : goal.invariant-loop-j
invariant-loop-j l = record {
  size : length l.next ≡ 33;
  last : slice_index_or l.next 32 zero_of ≡ zero_of;
  done : (list : List ℕ) → AreRows list l.rows → (m : ℕ) → m < l.j → (d : Lane32) → bits_of d ≡ slice_index list m
      → slice_index_or l.next m zero_of ≡ ops.plus (slice_index_or l.numerator (suc m) zero_of) (ops.times (slice_index_or l.numerator 0 zero_of) d);
}
