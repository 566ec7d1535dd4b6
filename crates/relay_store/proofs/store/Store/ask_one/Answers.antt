use Rattle.std.proofs.Common.{sym, ap, ◌∙◌, subst}
use Rattle.id_list.specs.Entries.{ids_in}
use Rattle.pool_rules.specs.Pools.{is_listed, is_in_pool}
use Rattle.relay_store.specs.Invariant.{IsCounted}
use Rattle.relay_store.proofs.Counts.{counted_more-absent}
use Rattle.relay_store.proofs.store.Store.ask_one.Goals as goal

pub invariant_of-self-2 : goal.invariant_of-self-2
invariant_of-self-2 c =
    subst (λ ids. IsCounted c.self.inside.pool ids c.self.inside.pooled) (sym c.in_ok-push.ensures.ids)
    (counted_more-absent c.self.inside.pool (ids_in c.self.inside.asked) c.self.inside.pooled c.args.id c.self.invariant (ap (λ h. is_listed h.wants.asked c.args.id) c.self.view_is ∙ c.requires.new)
    (ap (λ h. is_in_pool h.pool c.args.id) c.self.view_is ∙ c.requires.absent))
