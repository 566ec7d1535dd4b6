use Rattle.std.proofs.Common.{◌≡◌, ◌++◌, take, flat_map}
use Rattle.std.specs.Int.{w32, to_le_bytes}
use Rattle.wire_rules.specs.Layout.{entry_bytes}
use Rattle.recon_messages.proofs.pieces.put_entries.Given as goal

abbrev pub invariant-loop-entry : goal.invariant-loop-entry
invariant-loop-entry l = l.out.items ≡ l.fn.out.items ++ flat_map entry_bytes (take l.entry-index l.entries)
