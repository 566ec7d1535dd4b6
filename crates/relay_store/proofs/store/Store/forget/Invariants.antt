use Rattle.std.proofs.Common.{◌≡◌, take}
use Rattle.node_rules.specs.Inventory.{wtxids_of}
use Rattle.relay_store.specs.Holdings.{with_asked}
use Rattle.relay_store.proofs.Entries.{without_ids}
use Rattle.relay_store.proofs.store.Store.forget.Given as goal

-- those asked for without the ids so far
abbrev pub invariant-loop-entry : goal.invariant-loop-entry
invariant-loop-entry l = l.self ≡ with_asked l.fn.self (without_ids l.fn.self.wants.asked (wtxids_of (take l.entry-index l.entries)))
