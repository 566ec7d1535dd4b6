use Rattle.std.proofs.Common.{◌≡◌, ◌++◌}
use Rattle.line_rules.specs.Lines.{lines_of}
use Rattle.sketch_text.specs.Readings.{elements_before, first_fault}
use Rattle.sketch_text.proofs.reading.read.Given as goal

-- the numbers so far stand before those of the lines that are left
abbrev pub invariant-loop-line : goal.invariant-loop-line
invariant-loop-line l = record {
  numbers : elements_before (lines_of l.text) ≡ l.numbers.items ++ elements_before l.line-iterator;
  fault : first_fault (lines_of l.text) ≡ first_fault l.line-iterator;
}
