-- What a node reconciles: ids with their short ids. Members whose short ids are equal are set aside, which is this
-- project's own.
use Rattle.std.specs.Prelude.{◌≡◌, ℕ, ◌==◌, not, Bool, List, map, filter, find, count_by, option_map}
use Rattle.std.specs.List.{AllByRecursion}
use Rattle.std.specs.declared.option.Option.{Option}
use Rattle.base_types.specs.declared.lists.Hash32.{Hash32}
use Rattle.field_rules.specs.Elements.{numbers}
use Rattle.sketch_rules.specs.PowerSums.{odd_power_sums}
use Rattle.sketch_rules.specs.Sets.{difference}
use Rattle.sketch_rules.specs.Sketches.{sketch_of}
use Rattle.id_rules.specs.Ids.{KeyPair, short_id}
use Rattle.pool_rules.specs.Pools.{AreDistinctIds, is_same_id}

-- an id and its short id
pub record Member : Type 0 where
  pub id : Hash32
  pub short : ℕ

abbrev pub member_of : KeyPair → Hash32 → Member
member_of keys id = record { id = id; short = short_id keys id }

-- ids with their short ids under a key
abbrev pub members : KeyPair → List Hash32 → List Member
members keys ids = map (member_of keys) ids

abbrev pub ids_of : List Member → List Hash32
ids_of ms = map (λ m. m.id) ms

abbrev pub shorts_of : List Member → List ℕ
shorts_of ms = map (λ m. m.short) ms

-- a list of members without an id
abbrev pub without_member : List Member → Hash32 → List Member
without_member ms id = filter (λ m. not (is_same_id m.id id)) ms

-- a set, and the snapshot that a round takes of it: no id twice
abbrev pub IsSet : List Member → Type 0
IsSet ms = AreDistinctIds (ids_of ms)

-- whether one member alone has this short id
abbrev pub is_single : List Member → ℕ → Bool
is_single ms short = count_by (λ m. m.short == short) ms == 1

-- the members whose short id no other one has: those that a sketch is made of
abbrev pub sketched_members : List Member → List Member
sketched_members ms = filter (λ m. is_single ms m.short) ms

-- the others: they are in no sketch, and are always announced
abbrev pub colliding : List Member → List Member
colliding ms = filter (λ m. not (is_single ms m.short)) ms

abbrev pub sketched_shorts : List Member → List ℕ
sketched_shorts ms = shorts_of (sketched_members ms)

-- the id of a sketched short id
abbrev pub id_of_short : List Member → ℕ → Option Hash32
id_of_short ms short = option_map (λ m. m.id) (find (λ m. m.short == short) (sketched_members ms))

-- the sketch of a snapshot
abbrev pub snapshot_sketch : List Member → ℕ → List ℕ
snapshot_sketch ms c = sketch_of (sketched_shorts ms) c

-- the n sums of a snapshot's sketch from index i on
abbrev pub snapshot_sums : List Member → ℕ → ℕ → List ℕ
snapshot_sums ms i n = odd_power_sums (numbers 32) (sketched_shorts ms) i n

-- where both snapshots have sketched a short id, it is of one transaction
abbrev pub IsCollisionFree : List Member → List Member → Type 0
IsCollisionFree ps qs = AllByRecursion (λ p. AllByRecursion (λ q. p.short ≡ q.short → p.id ≡ q.id) (sketched_members qs)) (sketched_members ps)

-- the short ids that exactly one of two snapshots has sketched, ascending
abbrev pub snapshot_difference : List Member → List Member → List ℕ
snapshot_difference ps qs = difference (sketched_shorts ps) (sketched_shorts qs)
