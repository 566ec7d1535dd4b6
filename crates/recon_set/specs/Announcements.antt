-- What a side announces at the end of a round.
use Rattle.std.specs.Prelude.{ℕ, ◌==◌, ◌||◌, not, List, filter}
use Rattle.std.specs.List.{list_any}
use Rattle.base_types.specs.declared.lists.Hash32.{Hash32}
use Rattle.pool_rules.specs.Snapshots.{Member, ids_of, is_single}

-- the ids that are set aside or whose short ids are in a list, in the order of the members
abbrev pub announced_ids : List Member → List ℕ → List Hash32
announced_ids ms shorts = ids_of (filter (λ m. not (is_single ms m.short) || list_any (λ other. other == m.short) shorts) ms)
