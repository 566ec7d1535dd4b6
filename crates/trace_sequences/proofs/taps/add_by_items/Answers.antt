use Rattle.std.proofs.Common.{◌+◌, ◌-◌, length, arith}
use Rattle.trace_sequences.proofs.CorrelationSums.{no_correlation, more_correlation}
use Rattle.trace_sequences.proofs.taps.add_by_items.Goals as goal

pub loop-i-init : goal.loop-i-init
loop-i-init g c = no_correlation g.F.Field.ops g.met.F.Field.ring c.args.items.now c.args.others.now (length c.args.products.now) c.args.products.now c.requires.zeros

pub loop-i-preserved : goal.loop-i-preserved
loop-i-preserved g c =
    more_correlation g.F.Field.ops g.met.F.Field.ring c.args.items.now c.args.others.now (length c.args.products.now) c.loop-i.i (c.loop-i.i + length c.loop-i.products - c.loop-i.i) c.index-items-i.result c.loop-i.products
    c.axpy.new.acc c.requires.fits (omega arith) c.index-items-i.is (omega (arith, c.loop-i.auto.products)) c.loop-i.invariant c.axpy.ensures
