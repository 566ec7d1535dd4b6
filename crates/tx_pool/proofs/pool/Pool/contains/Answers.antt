use Rattle.std.proofs.Common.{ap, ◌∙◌}
use Rattle.pool_rules.specs.Pools.{is_in_pool}
use Rattle.tx_pool.proofs.Entries.{lookup-is_in_pool}
use Rattle.tx_pool.proofs.pool.Pool.contains.Goals as goal

pub returns : goal.returns
returns c = c.contains_key.ensures ∙ lookup-is_in_pool c.self.inside.transactions.entries c.args.id.now ∙ ap (λ pool. is_in_pool pool c.args.id.now) c.self.view_is
