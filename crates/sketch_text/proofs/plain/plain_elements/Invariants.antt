use Rattle.std.proofs.Common.{◌≡◌, ◌+◌, ◌-◌, ◌*◌, ◌≤◌, ◌++◌, drop, length, vec_len}
use Rattle.line_rules.specs.Lines.{lines, lines_of, numbered_lines}
use Rattle.sketch_text.specs.Readings.{elements_before, first_fault}
use Rattle.sketch_text.proofs.plain.plain_elements.Given as goal

-- the numbers so far are those of the plain lines before `at`
abbrev pub invariant-loop-number : goal.invariant-loop-number
invariant-loop-number l = record {
  within : l.at ≤ length l.text;
  at : l.at ≡ 9 * vec_len l.numbers;
  numbers : elements_before (lines_of l.text) ≡ l.numbers.items ++ elements_before (numbered_lines (vec_len l.numbers + 1) (lines (drop l.at l.text)));
  fault : first_fault (lines_of l.text) ≡ first_fault (numbered_lines (vec_len l.numbers + 1) (lines (drop l.at l.text)));
}

abbrev pub decreases-loop-number : goal.decreases-loop-number
decreases-loop-number l = length l.text - l.at
