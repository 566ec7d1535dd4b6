use Rattle.std.proofs.Common.{◌≡◌, take}
use Rattle.sequence_laws.specs.Halves.{evens, odds}
use Rattle.trace_sequences.proofs.squares.halves_of.Given as goal

abbrev pub invariant-loop-i : goal.invariant-loop-i
invariant-loop-i g l = record {
  even : l.even.items ≡ take l.i (evens l.f);
  odd : l.odd.items ≡ take l.i (odds l.f);
}
