use Rattle.std.proofs.Common.{sym, ap, ◌∙◌}
use Rattle.pool_rules.specs.Snapshots.{is_single}
use Rattle.recon_set.proofs.Kept.{single-some, single-none}
use Rattle.recon_set.proofs.members.Members.is_single.Goals as goal

pub returns-in-Some-clause-value : goal.returns-in-Some-clause-value
returns-in-Some-clause-value c =
    sym (single-some c.self.inside.list c.args.short c.in-Some.group.now (c.in-Some.ensures.value ∙ c.self.invariant.grouped c.args.short))
    ∙ ap (λ ms. is_single ms c.args.short) c.self.view_is

pub returns-in-None-clause-value : goal.returns-in-None-clause-value
returns-in-None-clause-value c =
    sym (single-none c.self.inside.list c.args.short (c.in-None.ensures.value ∙ c.self.invariant.grouped c.args.short))
    ∙ ap (λ ms. is_single ms c.args.short) c.self.view_is
