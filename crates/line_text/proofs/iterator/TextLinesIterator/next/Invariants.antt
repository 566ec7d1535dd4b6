use Rattle.std.proofs.Common.{◌≡◌, ◌+◌, ◌<◌, ◌^◌, length}
use Rattle.line_rules.specs.Lines.{lines, numbered_lines}
use Rattle.line_text.proofs.iterator.TextLinesIterator.next.Given as goal

-- only empty lines were passed over
abbrev pub invariant-loop-self : goal.invariant-loop-self
invariant-loop-self l = record {
  same : numbered_lines l.self-inside.number (lines l.self-inside.rest.now) ≡ l.fn.self;
  fits : l.self-inside.number + length l.self-inside.rest.now < 2 ^ 64;
}

abbrev pub decreases-loop-self : goal.decreases-loop-self
decreases-loop-self l = length l.self-inside.rest.now
