use Rattle.std.proofs.Common.{ap, ◌∙◌}
use Rattle.std.specs.Option.{is_some}
use Rattle.id_list.proofs.Changes.{lookup-id}
use Rattle.id_list.proofs.Found.{is_some-place}
use Rattle.id_list.specs.Entries.{ids_in}
use Rattle.pool_rules.specs.Pools.{is_listed}
use Rattle.id_list.proofs.list.IdList.contains.Goals as goal

pub returns : goal.returns
returns g c =
    c.contains_key.ensures
    ∙ ap is_some (lookup-id c.args.id.now c.self.inside.places.entries ∙ c.self.invariant.found c.args.id.now)
    ∙ is_some-place c.self.inside.entries.entries c.args.id.now
    ∙ ap (λ es. is_listed (ids_in es) c.args.id.now) c.self.view_is
