-- How a round ends for a side, which is alike for both: its report, and what it announces.
use Rattle.std.specs.Prelude.{ℕ, ◌==◌, ◌||◌, not, Bool, List, [], ◌∷◌, ◌++◌, filter}
use Rattle.std.specs.List.{list_any}
use Rattle.base_types.specs.declared.lists.Hash32.{Hash32}
use Rattle.wire_rules.specs.declared.phase.Phase.{Phase}
use Rattle.pool_rules.specs.Snapshots.{Member, ids_of, sketched_shorts, is_single}
use Rattle.pool_rules.specs.declared.report.Ending.{Ending}
use Rattle.pool_rules.specs.declared.report.Report.{Report}
use Rattle.node_rules.specs.State.{Round, Machine, no_round}

-- whether a number stands in a list
abbrev pub is_in : List ℕ → ℕ → Bool
is_in ns n = list_any (λ other. other == n) ns

-- the short ids of a list that are sketched in a snapshot, and those that aren't, which the other side alone has
abbrev pub own_short_ids : List Member → List ℕ → List ℕ
own_short_ids snapshot shorts = filter (λ n. is_in (sketched_shorts snapshot) n) shorts

abbrev pub missing_short_ids : List Member → List ℕ → List ℕ
missing_short_ids snapshot shorts = filter (λ n. not (is_in (sketched_shorts snapshot) n)) shorts

-- the ids of a snapshot that are set aside or whose short ids are in a list, in snapshot order
abbrev pub announcement : List Member → List ℕ → List Hash32
announcement snapshot shorts = ids_of (filter (λ m. not (is_single snapshot m.short) || is_in shorts m.short) snapshot)

abbrev pub report_of : Round → Ending → List ℕ → Report
report_of r e shorts = record { snapshot = ids_of r.snapshot; capacity = r.capacity; ending = e; answered = shorts }

-- a round is over: its report and the phase
abbrev pub after_round : Machine → Phase → Report → Machine
after_round m next report = record m { phase = next; round = no_round; reports = m.reports ++ report ∷ [] }
