use Rattle.std.proofs.Common.{◌≡◌, ◌++◌, not, map, filter}
use Rattle.pool_rules.specs.Snapshots.{is_single, ids_of, colliding}
use Rattle.recon_set.specs.Members.{member}
use Rattle.recon_set.proofs.members.Members.aside.Given as goal

abbrev pub invariant-loop-entry : goal.invariant-loop-entry
invariant-loop-entry l = l.ids.items ++ ids_of (filter (λ m. not (is_single l.self m.short)) (map member l.entry-iterator)) ≡ ids_of (colliding l.self)
