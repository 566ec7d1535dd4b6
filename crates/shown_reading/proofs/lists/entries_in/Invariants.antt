use Rattle.wire_rules.specs.Limits.{is_entry}
use Rattle.wire_rules.specs.Shown.{entry_word}
use Rattle.shown_reading.proofs.ManyWords.{IsUpTo}
use Rattle.shown_reading.proofs.lists.entries_in.Given as goal

abbrev pub invariant-loop-word : goal.invariant-loop-word
invariant-loop-word l = IsUpTo entry_word is_entry l.fn.words l.entries.items l.word-iterator
