use Rattle.std.proofs.Common.{length, take}
use Rattle.splitting_laws.specs.Parts.{IsCorrelation}
use Rattle.trace_sequences.proofs.taps.add_by_items.Given as goal

abbrev pub invariant-loop-i : goal.invariant-loop-i
invariant-loop-i g l = IsCorrelation g.F.Field.ops (take l.i l.items) l.others (length l.fn.products) l.products
