-- The members that the entries of a list of ids are, where the value of an id is its short id.
use Rattle.std.specs.Prelude.{ℕ, ◌<◌, ◌^◌, List, map}
use Rattle.std.specs.List.{AllByRecursion}
use Rattle.std.specs.Map.{values_of}
use Rattle.id_list.specs.declared.list.Entry.{Entry}
use Rattle.pool_rules.specs.Snapshots.{Member}

abbrev pub member : Entry ℕ → Member
member e = record { id = e.id; short = e.value }

abbrev pub members_of : List (ℕ × Entry ℕ) → List Member
members_of es = map member (values_of es)

-- each short id may be an element of a sketch
abbrev pub HaveElements : List Member → Type 0
HaveElements ms = AllByRecursion (λ m. (0 < m.short) × (m.short < 2 ^ 32)) ms
