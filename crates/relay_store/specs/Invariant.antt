-- How a store counts those asked for that its pool has.
use Rattle.std.specs.Prelude.{◌≡◌, ℕ, List, length, filter}
use Rattle.base_types.specs.declared.lists.Hash32.{Hash32}
use Rattle.pool_rules.specs.Pools.{Transaction, AreDistinctIds, is_in_pool}

-- of these ids, none of which stands twice, a pool has so many
pub record IsCounted (pool : List Transaction) (ids : List Hash32) (count : ℕ) : Type 0 where
  pub once : AreDistinctIds ids
  pub pooled : count ≡ length (filter (is_in_pool pool) ids)
