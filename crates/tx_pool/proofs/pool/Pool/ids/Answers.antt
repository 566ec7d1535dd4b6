use Rattle.std.proofs.Common.{ap, ◌∙◌}
use Rattle.pool_rules.specs.Pools.{pool_ids}
use Rattle.tx_pool.proofs.Entries.{keys-pool_ids}
use Rattle.tx_pool.proofs.pool.Pool.ids.Goals as goal

pub returns : goal.returns
returns c =
    c.from_vec.ensures ∙ c.in_ok-from_slice.ensures.items ∙ c.as_slice.ensures ∙ c.keys-ids.ensures.rest ∙ keys-pool_ids c.self.inside.transactions.entries
    ∙ ap pool_ids c.self.view_is
