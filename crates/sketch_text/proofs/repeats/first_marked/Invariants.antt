use Rattle.sketch_text.proofs.Marks.{Marks}
use Rattle.sketch_text.proofs.repeats.first_marked.Given as goal

-- the numbers before i have marked their indices
abbrev pub invariant-loop-i : goal.invariant-loop-i
invariant-loop-i l = Marks l.numbers l.repeats l.i l.marked.items
