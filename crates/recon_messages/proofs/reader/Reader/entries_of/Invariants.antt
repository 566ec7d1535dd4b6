use Rattle.std.proofs.Common.{◌≡◌, ◌-◌}
use Rattle.std.specs.Int.{w32}
use Rattle.wire_rules.specs.Reading.{entry_at, items_at, number_at}
use Rattle.recon_messages.proofs.Fields.{items_behind}
use Rattle.recon_messages.proofs.reader.Reader.entries_of.Given as goal

abbrev pub invariant-loop-i : goal.invariant-loop-i
invariant-loop-i l = items_behind entry_at l.entries.items (l.n - l.i) l.self ≡ items_at entry_at l.n l.fn.self
