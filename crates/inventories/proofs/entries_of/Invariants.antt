use Rattle.std.proofs.Common.{◌≡◌, map, take}
use Rattle.node_rules.specs.Turns.{entry}
use Rattle.inventories.proofs.entries_of.Given as goal

-- the ids so far
abbrev pub invariant-loop-id : goal.invariant-loop-id
invariant-loop-id l = l.entries.items ≡ map entry (take l.id-index l.ids)
