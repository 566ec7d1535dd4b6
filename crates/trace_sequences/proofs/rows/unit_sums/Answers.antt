use Rattle.std.proofs.Common.{◌-◌, length, refl, sym, ap, ◌∙◌, arith}
use Rattle.std.proofs.lemmas.List.{length_push}
use Rattle.trace_sequences.proofs.RowLists.{first_sum, sums_pushed}
use Rattle.trace_sequences.proofs.rows.unit_sums.Goals as goal

pub loop-i-init : goal.loop-i-init
loop-i-init g c = record {
  size = omega (arith, ap length c.in_ok-push.ensures.items, length_push c.in_ok-sums.sums.items c.ONE.result, ap length c.in_ok-sums.ensures.items);
  sums = λ es u is unit.
      first_sum g.F.Field.ops g.met.F.Field.ring u es c.args.f.now c.push.new.self.items c.ONE.result c.in_ok-sums.sums.items unit is (omega arith)
      c.in_ok-sums.ensures.items (c.ONE.ensures ∙ sym g.met.F.Field.one_is) c.in_ok-push.ensures.items;
}

pub loop-i-preserved : goal.loop-i-preserved
loop-i-preserved g c = record {
  size = omega (arith, ap length c.in_ok-push-2.ensures.items, length_push c.loop-i.sums.items c.dot-next.result, c.loop-i.invariant.size);
  sums = λ es u is unit.
      sums_pushed g.F.Field.ops g.met.F.Field.ring u es c.args.f.now c.loop-i.sums.items c.as_slice.result.now c.push-in-loop-i.new.self.items c.loop-i.i (length c.args.f.now - 1) c.dot-next.result unit is refl
      (omega arith) (omega arith) (c.loop-i.invariant.sums es u is unit) c.as_slice.ensures.value c.dot-next.ensures c.in_ok-push-2.ensures.items;
}
