use Rattle.std.proofs.Common.{sym, subst, ap, ◌∙◌}
use Rattle.id_list.specs.Entries.{ids_in}
use Rattle.relay_store.specs.Holdings.{AreHoldings}
use Rattle.relay_store.specs.Invariant.{IsCounted}
use Rattle.relay_store.proofs.Rooms.{counted_wanted}
use Rattle.relay_store.proofs.store.Store.ask_wanted.Goals as goal

pub invariant_of-self : goal.invariant_of-self
invariant_of-self c =
    subst (λ es. IsCounted c.self.inside.pool (ids_in es) c.self.inside.pooled) (sym c.take.ensures.taken)
    (counted_wanted _ c.self.inside.pooled (subst AreHoldings (sym c.self.view_is) c.requires.held) (ap (λ h. h.wants.asked) c.self.view_is ∙ c.requires.none) c.self.invariant)
