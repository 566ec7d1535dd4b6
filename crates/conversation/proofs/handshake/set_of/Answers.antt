use Rattle.std.proofs.Common.{[]}
use Rattle.base_types.specs.declared.lists.Hash32.{Hash32}
use Rattle.pool_laws.proofs.Ids.{short_id-nonzero}
use Rattle.short_ids.specs.States.{pair_of}
use Rattle.conversation.proofs.Gathering.{unlisted_next, few_members}
use Rattle.conversation.proofs.handshake.set_of.Goals as goal

pub add-requires-clause-absent : goal.add-requires-clause-absent
add-requires-clause-absent c =
    let d : Hash32 = record { 0 = [] } in
    rw c.loop-id.invariant (unlisted_next (pair_of c.args.keys.now) c.args.ids.now c.loop-id.id-index d c.requires.distinct c.loop-id-test.true)

pub add-requires-clause-room : goal.add-requires-clause-room
add-requires-clause-room c = few_members (pair_of c.args.keys.now) c.args.ids.now c.loop-id.set c.loop-id.id-index c.loop-id.invariant c.loop-id-test.true c.requires.few

pub add-requires-clause-nonzero : goal.add-requires-clause-nonzero
add-requires-clause-nonzero c = rw c.short_id.ensures (short_id-nonzero (pair_of c.args.keys.now) _)
