-- How a list of ids is kept.
use Rattle.std.specs.Prelude.{◌≡◌, ℕ, ◌<◌, List, option_map}
use Rattle.std.specs.List.{AllByRecursion}
use Rattle.std.specs.List.Sorted.{IsStrictlySortedBy}
use Rattle.std.specs.Map.{lookup, keys_of}
use Rattle.std.specs.Ordering.{nat_cmp}
use Rattle.base_types.specs.declared.lists.Hash32.{Hash32}
use Rattle.pool_rules.specs.Pools.{is_same_id, AreDistinctIds}
use Rattle.id_list.specs.declared.list.Entry.{Entry}
use Rattle.id_list.specs.Entries.{ids_in, entry_of_id}

-- no id stands twice, places rise and are below the next one, and each id is found at its place
pub record IsIndexed {V : Type 0} (es : List (ℕ × Entry V)) (places : List (Hash32 × ℕ)) (next : ℕ) : Type 0 where
  pub distinct : AreDistinctIds (ids_in es)
  pub rising : IsStrictlySortedBy nat_cmp (keys_of es)
  pub below : AllByRecursion (λ e. e.0 < next) es
  pub found : (id : Hash32) → lookup (is_same_id id) places ≡ option_map (λ e. e.0) (entry_of_id es id)
