use Rattle.std.proofs.Common.{refl, lit<}
use Rattle.invariant_laws.proofs.Joined.{opening-node}
use Rattle.relay_node.proofs.node.Node.new.Goals as goal

pub invariant_of-result : goal.invariant_of-result
invariant_of-result c = rw (c.in_ok-conversation.ensures, c.new-2.ensures.value) (record {
  node = opening-node c.args.config c.args.pool c.requires c.len.ensures.sound;
  unended = refl;
  feeder = record { magic = refl; going = refl; unread = refl; place = lit< tt };
})
