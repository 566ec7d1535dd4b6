use Rattle.std.proofs.Common.{◌≡◌, ◌<◌, [], length, get_or, sym, ◌∙◌, arith}
use Rattle.field_laws.proofs.Conjugates.{conjugate-none, conjugate-more}
use Rattle.std.proofs.lemmas.List.{get_or_default}
use Rattle.trace_sequences.proofs.RowLists.{trace_started, trace_added}
use Rattle.trace_sequences.proofs.traces.add_trace.Goals as goal

pub loop-i-init : goal.loop-i-init
loop-i-init g c = record {
  power = sym (conjugate-none g.F.Field.ops c.args.b);
  sum = λ u es size are. trace_started g.F.Field.ops g.met.F.Field.ring u es c.args.b c.args.sum.now c.requires.zeros size;
}

pub loop-i-preserved : goal.loop-i-preserved
loop-i-preserved g c =
    let within : c.loop-i.i < length c.args.rows.now = omega (arith, c.requires.count, c.BITS-i-end.ensures, c.loop-i-test.true) in
    let row : c.as_slice.result.now ≡ get_or c.args.rows.now c.loop-i.i [] = c.as_slice.ensures ∙ c.index-rows-i.is ∙ get_or_default c.args.rows.now c.loop-i.i c.index-rows-i.result [] within in
    record {
      power = c.square-power.ensures ∙ conjugate-more g.F.Field.ops c.loop-i.i c.args.b c.loop-i.power c.loop-i.invariant.power;
      sum = λ u es size are.
          trace_added g.F.Field.ops g.met.F.Field.ring u es c.args.b c.loop-i.power c.loop-i.sum c.as_slice.result.now c.axpy.new.acc c.args.rows.now c.loop-i.i c.loop-i.invariant.power
          (c.loop-i.invariant.sum u es size are) within are row c.axpy.ensures;
    }
