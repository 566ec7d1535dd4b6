use Rattle.std.proofs.Common.{◌≤◌, length, sym, ap, subst, ◌∙◌}
use Rattle.pool_rules.specs.Pools.{AreDistinctIds}
use Rattle.pool_rules.specs.Snapshots.{IsSet}
use Rattle.pool_rules.specs.declared.limits.TheConstants.{POOL_LIMIT}
use Rattle.recon_set.proofs.Entries.{ids_of-members, length-members}
use Rattle.recon_set.proofs.members.Members.len.Goals as goal

pub returns-clause-set : goal.returns-clause-set
returns-clause-set c = subst IsSet c.self.view_is (subst AreDistinctIds (sym (ids_of-members c.self.inside.list)) c.self.invariant.distinct)

pub returns-clause-few : goal.returns-clause-few
returns-clause-few c = subst (λ n. n ≤ POOL_LIMIT) (sym (length-members c.self.inside.list) ∙ ap length c.self.view_is) c.self.invariant.few
