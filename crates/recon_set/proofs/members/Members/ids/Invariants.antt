use Rattle.std.proofs.Common.{◌≡◌, ◌++◌, map}
use Rattle.pool_rules.specs.Snapshots.{ids_of}
use Rattle.recon_set.specs.Members.{member}
use Rattle.recon_set.proofs.members.Members.ids.Given as goal

abbrev pub invariant-loop-entry : goal.invariant-loop-entry
invariant-loop-entry l = l.ids.items ++ ids_of (map member l.entry-iterator) ≡ ids_of l.self
