use Rattle.std.proofs.Common.{◌≡◌, take}
use Rattle.recon_set.specs.Pairs.{pair_members}
use Rattle.recon_set.proofs.snapshot.members_of_pairs.Given as goal

abbrev pub invariant-loop-id : goal.invariant-loop-id
invariant-loop-id l = l.members ≡ pair_members (take l.id-index l.pairs)
