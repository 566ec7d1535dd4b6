use Rattle.std.proofs.Common.{◌≡◌, ◌-◌}
use Rattle.std.specs.Int.{w32}
use Rattle.wire_rules.specs.Reading.{entry_at, items_at, number_at}
use Rattle.recon_messages.proofs.Fields.{items_behind}
use Rattle.recon_messages.proofs.reader.Reader.shorts_of.Given as goal

abbrev pub invariant-loop-i : goal.invariant-loop-i
invariant-loop-i l = items_behind (number_at w32) l.shorts.items (l.n - l.i) l.self ≡ items_at (number_at w32) l.n l.fn.self
