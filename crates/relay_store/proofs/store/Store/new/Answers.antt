use Rattle.std.proofs.Common.{sym, subst}
use Rattle.id_list.specs.Entries.{ids_in}
use Rattle.relay_store.specs.Invariant.{IsCounted}
use Rattle.relay_store.proofs.Counts.{counted_none}
use Rattle.relay_store.proofs.store.Store.new.Goals as goal

pub invariant_of-result : goal.invariant_of-result
invariant_of-result c = subst (λ es. IsCounted c.args.pool (ids_in es) 0) (sym c.new-2.ensures) (counted_none c.args.pool)
