-- Lists of ids, each with a value and a place: a number of its own that it keeps as long as it is in the list.
use Rattle.std.specs.Prelude.{ℕ, ◌==◌, not, List, map, filter, find, option_map}
use Rattle.std.specs.declared.option.Option.{Option}
use Rattle.base_types.specs.declared.lists.Hash32.{Hash32}
use Rattle.pool_rules.specs.Pools.{is_same_id, is_listed}
use Rattle.id_list.specs.declared.list.Entry.{Entry}

module _ {V : Type 0} where
  -- the ids of a list, in order
  abbrev pub ids_in : List (ℕ × Entry V) → List Hash32
  ids_in es = map (λ e. e.1.id) es

  -- the entry of an id, and its place
  abbrev pub entry_of_id : List (ℕ × Entry V) → Hash32 → Option (ℕ × Entry V)
  entry_of_id es id = find (λ e. is_same_id e.1.id id) es

  -- the value of an id
  abbrev pub value_of_id : List (ℕ × Entry V) → Hash32 → Option V
  value_of_id es id = option_map (λ e. e.1.value) (entry_of_id es id)

  -- the entry at a place
  abbrev pub entry_at : List (ℕ × Entry V) → ℕ → Option (Entry V)
  entry_at es place = option_map (λ e. e.1) (find (λ e. e.0 == place) es)

  -- a list without an id
  abbrev pub without_entry : List (ℕ × Entry V) → Hash32 → List (ℕ × Entry V)
  without_entry es id = filter (λ e. not (is_same_id e.1.id id)) es

  -- a list without ids
  abbrev pub without_entries : List (ℕ × Entry V) → List Hash32 → List (ℕ × Entry V)
  without_entries es ids = filter (λ e. not (is_listed ids e.1.id)) es
