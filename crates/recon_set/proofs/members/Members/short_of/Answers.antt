use Rattle.std.proofs.Common.{◌<◌, ◌^◌, find, option_map, sym, ap, subst, ◌∙◌}
use Rattle.std.specs.Option.{IfSome}
use Rattle.pool_rules.specs.Pools.{is_same_id, AreDistinctIds}
use Rattle.pool_rules.specs.Snapshots.{IsSet}
use Rattle.recon_set.proofs.Entries.{ids_of-members}
use Rattle.recon_set.proofs.Kept.{short_of-id, element_found}
use Rattle.recon_set.proofs.members.Members.short_of.Goals as goal

pub returns-clause-value : goal.returns-clause-value
returns-clause-value c =
    c.get.ensures
    ∙ short_of-id c.self.inside.list c.args.id.now
    ∙ ap (λ ms. option_map (λ m. m.short) (find (λ m. is_same_id m.id c.args.id.now) ms)) c.self.view_is

pub returns-clause-element : goal.returns-clause-element
returns-clause-element c =
    subst (λ o. IfSome o (λ s. (0 < s) × (s < 2 ^ 32))) (sym (c.get.ensures ∙ short_of-id c.self.inside.list c.args.id.now)) (element_found (λ m. is_same_id m.id c.args.id.now) _ c.self.invariant.elements)

pub returns-clause-set : goal.returns-clause-set
returns-clause-set c = subst IsSet c.self.view_is (subst AreDistinctIds (sym (ids_of-members c.self.inside.list)) c.self.invariant.distinct)
