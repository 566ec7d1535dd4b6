use Rattle.std.proofs.Common.{◌≡◌, take}
use Rattle.id_list.specs.Entries.{ids_in}
use Rattle.node_rules.specs.Inventory.{unknown_ids}
use Rattle.relay_store.proofs.Rooms.{node_with}
use Rattle.relay_store.proofs.store.Store.unknown_ids.Given as goal

-- those of the entries so far
abbrev pub invariant-loop-entry : goal.invariant-loop-entry
invariant-loop-entry l = ids_in l.found ≡ unknown_ids (node_with l.self) (take l.entry-index l.entries)
