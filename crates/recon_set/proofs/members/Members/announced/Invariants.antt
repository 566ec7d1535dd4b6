use Rattle.std.proofs.Common.{◌≡◌, ◌==◌, ◌++◌, ◌||◌, not, map, filter}
use Rattle.std.specs.List.{list_any}
use Rattle.pool_rules.specs.Snapshots.{is_single, ids_of}
use Rattle.recon_set.specs.Members.{member}
use Rattle.recon_set.proofs.members.Members.announced.Given as goal

abbrev pub invariant-loop-entry : goal.invariant-loop-entry
invariant-loop-entry l =
    l.ids.items ++ ids_of (filter (λ m. list_any (λ other. other == m.short) l.sorted || not (is_single l.self m.short)) (map member l.entry-iterator))
    ≡ ids_of (filter (λ m. list_any (λ other. other == m.short) l.sorted || not (is_single l.self m.short)) l.self)
