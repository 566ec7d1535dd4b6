use Rattle.std.proofs.Common.{sym, subst}
use Rattle.id_list.specs.Entries.{ids_in}
use Rattle.relay_store.specs.Invariant.{IsCounted}
use Rattle.relay_store.proofs.Counts.{counted_none}
use Rattle.relay_store.proofs.store.Store.clear_wants.Goals as goal

pub invariant_of-self : goal.invariant_of-self
invariant_of-self c = subst (λ es. IsCounted c.self.inside.pool (ids_in es) 0) (sym c.clear-2.ensures) (counted_none c.self.inside.pool)
