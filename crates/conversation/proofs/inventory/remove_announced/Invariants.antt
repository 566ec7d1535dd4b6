use Rattle.std.proofs.Common.{◌≡◌, take}
use Rattle.node_rules.specs.Inventory.{without_announced}
use Rattle.conversation.proofs.inventory.remove_announced.Given as goal

-- the set without the ids so far
abbrev pub invariant-loop-entry : goal.invariant-loop-entry
invariant-loop-entry l = l.set ≡ without_announced l.fn.set (take l.entry-index l.entries)
