use Rattle.std.proofs.Common.{◌≡◌, ◌≢◌, slice_index_or, slice_set, ap, sym, ◌∙◌, arith, below_more, length-set, get_or-set_same, get_or-set_other}
use Rattle.std.proofs.lemmas.List.{get_or_default}
use Rattle.field_rules.specs.Fields.{conjugate}
use Rattle.field_laws.proofs.Conjugates.{conjugate-runs}
use Rattle.clmul_lanes.specs.Lane32.{ops, zero_of}
use Rattle.clmul_lanes.proofs.gathered_sums.fourth_powers.Goals as goal

pub loop-r-preserved : goal.loop-r-preserved
loop-r-preserved c = record {
  size = length-set c.loop-r.powers c.loop-r.r c.power_2-in-loop-r.result ∙ c.loop-r.invariant.size;
  done =
      below_more (λ k. slice_index_or (slice_set c.loop-r.powers c.loop-r.r c.power_2-in-loop-r.result) k zero_of ≡ conjugate ops 2 (slice_index_or c.args.list.now k zero_of)) c.loop-r.r
      (λ k lt. let apart : k ≢ c.loop-r.r = omega arith in get_or-set_other c.loop-r.powers c.loop-r.r k c.power_2-in-loop-r.result zero_of apart ∙ c.loop-r.invariant.done k lt)
      (get_or-set_same c.loop-r.powers c.loop-r.r c.power_2-in-loop-r.result zero_of (omega (arith, c.loop-r.invariant.size, c.loop-r-test.true))
      ∙ c.power_2-in-loop-r.ensures
      ∙ ap (conjugate ops 1) c.power_2.ensures
      ∙ sym (conjugate-runs ops 1 1 (slice_index_or c.args.list.now c.loop-r.r c.index-list-r.result))
      ∙ ap (conjugate ops 2) (get_or_default c.args.list.now c.loop-r.r c.index-list-r.result zero_of (omega (arith, c.told-list, c.loop-r-test.true))));
}
