use Rattle.std.proofs.Common.{Some, ap, ◌∙◌}
use Rattle.pool_rules.specs.Pools.{bytes_of_id}
use Rattle.tx_pool.proofs.Entries.{lookup-bytes_of_id}
use Rattle.tx_pool.proofs.pool.Pool.get.Goals as goal

pub returns-in-Some : goal.returns-in-Some
returns-in-Some c = ap Some c.as_slice.ensures ∙ c.in-Some.ensures.value ∙ lookup-bytes_of_id c.self.inside.transactions.entries c.args.id.now ∙ ap (λ pool. bytes_of_id pool c.args.id.now) c.self.view_is

pub returns-in-None : goal.returns-in-None
returns-in-None c = c.in-None.ensures.value ∙ lookup-bytes_of_id c.self.inside.transactions.entries c.args.id.now ∙ ap (λ pool. bytes_of_id pool c.args.id.now) c.self.view_is
