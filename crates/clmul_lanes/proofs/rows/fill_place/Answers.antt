use Rattle.std.proofs.Common.{◌≡◌, ◌≢◌, ◌+◌, ◌*◌, ◌<◌, length, slice_index, slice_set, lit<, ap, ◌∙◌, arith, below_more, get_or-set_same, get_or-set_other, length-set}
use Rattle.field_rules.specs.Elements.{product}
use Rattle.clmul_lanes.proofs.rows.fill_place.Goals as goal

pub loop-j-preserved : goal.loop-j-preserved
loop-j-preserved c = let inside : c.loop-j.j < length c.loop-j.next = omega (arith, c.loop-j.invariant.size) in record {
  size = length-set c.loop-j.next c.loop-j.j c.doubled.result ∙ c.loop-j.invariant.size;
  kept = λ r m lt within. c.set_column.ensures.kept r m lt within ∙ c.loop-j.invariant.kept r m lt within;
  made = λ v m v_lt lt.
      below_more (λ m. slice_index c.set_column.new.rows (32 * (16 * c.args.i + v) + m) ≡ product 32 (slice_index c.args.firsts.now m) v) c.loop-j.j
      (λ m lt. let apart : m ≢ c.loop-j.j = omega arith in c.set_column.ensures.others (16 * c.args.i + v) m (omega (arith, c.loop-j-test.true)) apart ∙ c.loop-j.invariant.made v m v_lt lt)
      (c.set_column.ensures.made v v_lt ∙ c.nibble_multiples-multiples.ensures v v_lt) m lt;
  done =
      below_more (λ m. slice_index (slice_set c.loop-j.next c.loop-j.j c.doubled.result) m ≡ product 32 (product 32 (slice_index c.args.firsts.now m) 8) 2) c.loop-j.j
      (λ m lt. let apart : m ≢ c.loop-j.j = omega arith in get_or-set_other c.loop-j.next c.loop-j.j m c.doubled.result 0 apart ∙ c.loop-j.invariant.done m lt)
      (get_or-set_same c.loop-j.next c.loop-j.j c.doubled.result 0 inside ∙ c.doubled.ensures ∙ ap (λ z. product 32 z 2) (c.nibble_multiples-multiples.ensures 8 (lit< tt)));
}
