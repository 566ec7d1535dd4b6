use Rattle.std.proofs.Common.{sym, ap, ◌∙◌}
use Rattle.pool_rules.specs.Pools.{is_listed}
use Rattle.pool_rules.specs.Snapshots.{ids_of}
use Rattle.recon_set.proofs.Entries.{ids_of-members}
use Rattle.recon_set.proofs.members.Members.contains.Goals as goal

pub returns : goal.returns
returns c =
    c.contains.ensures
    ∙ ap (λ ids. is_listed ids c.args.id.now) (sym (ids_of-members c.self.inside.list))
    ∙ ap (λ ms. is_listed (ids_of ms) c.args.id.now) c.self.view_is
