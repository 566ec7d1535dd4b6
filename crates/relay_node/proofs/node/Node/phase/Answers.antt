use Rattle.relay_node.proofs.Nodes.{linked-node}
use Rattle.relay_node.proofs.node.Node.phase.Goals as goal

pub returns-clause-node : goal.returns-clause-node
returns-clause-node c = rw (← c.self.view_is) (linked-node c.self.inside.conversation c.self.inside.link c.self.invariant)
