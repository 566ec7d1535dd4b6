-- How members are kept.
use Rattle.std.specs.Prelude.{◌≤◌, ℕ, List, length}
use Rattle.id_list.specs.declared.list.Entry.{Entry}
use Rattle.id_list.specs.Entries.{ids_in}
use Rattle.pool_rules.specs.Pools.{AreDistinctIds}
use Rattle.pool_rules.specs.declared.limits.TheConstants.{POOL_LIMIT}
use Rattle.recon_set.specs.declared.members.Group.{Group}
use Rattle.recon_set.specs.Members.{members_of, HaveElements}
use Rattle.recon_set.specs.Groups.{AreGroups}

-- no id stands twice, they are as many as a pool may have, the short ids may be elements of a sketch, and the groups are
-- those of the entries
pub record AreKept (es : List (ℕ × Entry ℕ)) (groups : List (ℕ × Group)) : Type 0 where
  pub distinct : AreDistinctIds (ids_in es)
  pub few : length es ≤ POOL_LIMIT
  pub elements : HaveElements (members_of es)
  pub grouped : AreGroups es groups
