use Rattle.std.proofs.Common.{get_or, ap, ◌∙◌}
use Rattle.pool_rules.specs.Pools.{is_listed}
use Rattle.relay_store.proofs.Changes.{no_id, distinct_next}
use Rattle.relay_store.proofs.store.Store.ask.Goals as goal

pub ask_one-requires-clause-new : goal.ask_one-requires-clause-new
ask_one-requires-clause-new c =
    ap (λ h. is_listed h.wants.asked (get_or c.args.ids.now c.loop-id.id-index no_id)) c.loop-id.invariant
    ∙ distinct_next c.args.self.now.wants.asked c.args.ids.now c.loop-id.id-index c.loop-id-test.true c.requires.distinct
