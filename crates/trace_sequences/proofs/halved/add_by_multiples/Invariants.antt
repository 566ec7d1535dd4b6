use Rattle.std.proofs.Common.{◌≡◌, List, length, take, reverse}
use Rattle.splitting_laws.specs.Parts.{IsCorrelation}
use Rattle.trace_sequences.proofs.halved.add_by_multiples.Given as goal

abbrev pub invariant-loop-j : goal.invariant-loop-j
invariant-loop-j g l = (items : List _) → l.turned ≡ reverse items → IsCorrelation g.F.Field.ops items (take l.j l.others) (length l.fn.products) l.products
