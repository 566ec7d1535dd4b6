-- The members with one short id: how many they are, and the exclusive or of their places, which is the place of a lone one.
use Rattle.std.specs.Prelude.{◌≡◌, ℕ, zero, suc, ◌==◌, ◌+◌, ◌-◌, if◌then◌else◌, List, [], ◌∷◌, None, Some, bit_xor}
use Rattle.std.specs.declared.option.Option.{Option}
use Rattle.std.specs.List.{count_by}
use Rattle.std.specs.Map.{lookup}
use Rattle.std.specs.Ordering.{nat_cmp}
use Rattle.std.specs.BTreeMap.{is_at}
use Rattle.id_list.specs.declared.list.Entry.{Entry}
use Rattle.recon_set.specs.declared.members.Group.{Group}

abbrev pub count_at : List (ℕ × Entry ℕ) → ℕ → ℕ
count_at es s = count_by (λ e. e.1.value == s) es

unfoldable pub places_at : List (ℕ × Entry ℕ) → ℕ → ℕ
places_at [] s = 0
places_at (e ∷ es) s = if e.1.value == s then bit_xor e.0 (places_at es s) else places_at es s

-- none where there are none
unfoldable pub group_by_count : ℕ → ℕ → Option Group
group_by_count zero places = None
group_by_count (suc n) places = Some (record { count = suc n; places = places })

abbrev pub group_at : List (ℕ × Entry ℕ) → ℕ → Option Group
group_at es s = group_by_count (count_at es s) (places_at es s)

-- a group with one more member, at this place
abbrev pub with_place : Option Group → ℕ → Group
with_place None place = record { count = 1; places = place }
with_place (Some g) place = record { count = g.count + 1; places = bit_xor g.places place }

-- a group without its member at this place
abbrev pub without_place : Group → ℕ → Option Group
without_place g place = group_by_count (g.count - 1) (bit_xor g.places place)

-- the groups of entries
abbrev pub AreGroups : List (ℕ × Entry ℕ) → List (ℕ × Group) → Type 0
AreGroups es groups = (s : ℕ) → lookup (is_at (nat_cmp s)) groups ≡ group_at es s
