use Rattle.std.proofs.Common.{get_or, ap, ◌∙◌}
use Rattle.pool_rules.specs.Pools.{is_listed}
use Rattle.relay_store.proofs.Changes.{no_id, distinct_next}
use Rattle.relay_store.proofs.store.Store.want.Goals as goal

pub want_one-requires : goal.want_one-requires
want_one-requires c =
    ap (λ h. is_listed h.wants.wanted (get_or c.args.ids.now c.loop-id.id-index no_id)) c.loop-id.invariant
    ∙ distinct_next c.args.self.now.wants.wanted c.args.ids.now c.loop-id.id-index c.loop-id-test.true c.requires
