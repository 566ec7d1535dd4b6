use Rattle.std.proofs.Common.{◌^◌, nat_lt}
use Rattle.line_rules.specs.Digits.{eight_digits}
use Rattle.shown_reading.proofs.ManyWords.{IsUpTo}
use Rattle.shown_reading.proofs.lists.shorts_in.Given as goal

abbrev pub invariant-loop-word : goal.invariant-loop-word
invariant-loop-word l = IsUpTo eight_digits (λ n. nat_lt n (2 ^ 32)) l.fn.words l.shorts.items l.word-iterator
