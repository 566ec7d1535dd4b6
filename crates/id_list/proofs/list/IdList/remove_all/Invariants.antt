use Rattle.std.proofs.Common.{◌≡◌, take}
use Rattle.id_list.specs.Entries.{without_entries}
use Rattle.id_list.proofs.list.IdList.remove_all.Given as goal

abbrev pub invariant-loop-id : goal.invariant-loop-id
invariant-loop-id g l = l.self ≡ without_entries l.fn.self (take l.id-index l.ids)
