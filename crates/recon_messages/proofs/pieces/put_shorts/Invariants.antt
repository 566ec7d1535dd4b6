use Rattle.std.proofs.Common.{◌≡◌, ◌++◌, take, flat_map}
use Rattle.std.specs.Int.{w32, to_le_bytes}
use Rattle.wire_rules.specs.Layout.{entry_bytes}
use Rattle.recon_messages.proofs.pieces.put_shorts.Given as goal

abbrev pub invariant-loop-short : goal.invariant-loop-short
invariant-loop-short l = l.out.items ≡ l.fn.out.items ++ flat_map (to_le_bytes w32) (take l.short-index l.shorts)
