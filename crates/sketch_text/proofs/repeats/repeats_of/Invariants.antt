use Rattle.sketch_text.proofs.Found.{Found}
use Rattle.sketch_text.proofs.repeats.repeats_of.Given as goal

-- what was found before i
abbrev pub invariant-loop-i : goal.invariant-loop-i
invariant-loop-i l = Found l.sorted l.i l.repeats.items
