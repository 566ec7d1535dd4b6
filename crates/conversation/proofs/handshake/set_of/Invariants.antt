use Rattle.std.proofs.Common.{◌≡◌, take}
use Rattle.pool_rules.specs.Snapshots.{members}
use Rattle.short_ids.specs.States.{pair_of}
use Rattle.conversation.proofs.handshake.set_of.Given as goal

abbrev pub invariant-loop-id : goal.invariant-loop-id
invariant-loop-id l = l.set ≡ members (pair_of l.keys) (take l.id-index l.ids)
