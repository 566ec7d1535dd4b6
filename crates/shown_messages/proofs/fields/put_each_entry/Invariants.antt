use Rattle.std.proofs.Common.{◌≡◌, ◌∷◌, ◌++◌, flat_map, take}
use Rattle.wire_rules.specs.Shown.{entry_word}
use Rattle.shown_messages.proofs.fields.put_each_entry.Given as goal

abbrev pub invariant-loop-entry : goal.invariant-loop-entry
invariant-loop-entry l = l.out.items ≡ l.fn.out.items ++ flat_map (λ x. 32 ∷ entry_word x) (take l.entry-index l.entries)
