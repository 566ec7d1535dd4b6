use Rattle.std.proofs.Common.{◌≡◌, ◌≤◌, drop}
use Rattle.line_rules.specs.Numbers.{digits_onto}
use Rattle.tx_pool.proofs.number.digits_of.Given as goal

-- the digits that are left, behind the number so far
abbrev pub invariant-loop-digit : goal.invariant-loop-digit
invariant-loop-digit l = record {
  same : digits_onto 0 l.word ≡ digits_onto l.number (drop l.digit-index l.word);
  small : l.number ≤ l.high;
}
