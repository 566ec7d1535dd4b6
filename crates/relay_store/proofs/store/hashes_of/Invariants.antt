use Rattle.std.proofs.Common.{◌≡◌, ◌++◌, map}
use Rattle.id_list.specs.Entries.{ids_in}
use Rattle.relay_store.proofs.store.hashes_of.Given as goal

abbrev pub invariant-loop-entry : goal.invariant-loop-entry
invariant-loop-entry l = l.ids.items ++ map (λ e. e.id) l.entry-iterator ≡ ids_in l.list
