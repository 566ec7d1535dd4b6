use Rattle.std.proofs.Common.{◌≡◌, ◌++◌, map, filter}
use Rattle.pool_rules.specs.Snapshots.{is_single, shorts_of, sketched_shorts}
use Rattle.recon_set.specs.Members.{member}
use Rattle.recon_set.proofs.members.Members.sketched.Given as goal

abbrev pub invariant-loop-entry : goal.invariant-loop-entry
invariant-loop-entry l = l.shorts.items ++ shorts_of (filter (λ m. is_single l.self m.short) (map member l.entry-iterator)) ≡ sketched_shorts l.self
