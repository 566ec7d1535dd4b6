use Rattle.std.proofs.Common.{◌≡◌, ◌≢◌, ◌*◌, ◌/◌, ◌%◌, ◌^◌, slice_index_or, slice_set, ap, ◌∙◌, arith, below_more, length-set, get_or-set_same, get_or-set_other}
use Rattle.std.proofs.Math.Nat.{mod-eq_of_lt}
use Rattle.field_core.proofs.LinearMaps.{nibble_fits}
use Rattle.clmul_lanes.specs.Lane32.{bits_of, zero_of}
use Rattle.clmul_lanes.proofs.gathered_sums.nibble_values.Goals as goal

pub loop-r-preserved : goal.loop-r-preserved
loop-r-preserved c = record {
  size = length-set c.loop-r.values c.loop-r.r c.new.result ∙ c.loop-r.invariant.size;
  done =
      below_more (λ k. bits_of (slice_index_or (slice_set c.loop-r.values c.loop-r.r c.new.result) k zero_of) ≡ k % 16 * 2 ^ (4 * (k / 16))) c.loop-r.r
      (λ k lt. let apart : k ≢ c.loop-r.r = omega arith in ap bits_of (get_or-set_other c.loop-r.values c.loop-r.r k c.new.result zero_of apart) ∙ c.loop-r.invariant.done k lt)
      (ap bits_of (get_or-set_same c.loop-r.values c.loop-r.r c.new.result zero_of (omega (arith, c.loop-r.invariant.size, c.loop-r-test.true))) ∙ c.new.ensures ∙ mod-eq_of_lt (nibble_fits (c.loop-r.r / 16) (c.loop-r.r % 16) (omega (arith, c.loop-r-test.true)) (omega arith)));
}
