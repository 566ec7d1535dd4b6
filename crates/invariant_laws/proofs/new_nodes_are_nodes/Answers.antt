-- The clause is a lemma.
use Rattle.invariant_laws.proofs.Joined.{opening-node}
use Rattle.invariant_laws.proofs.new_nodes_are_nodes.Goals as goal

pub returns : goal.returns
returns c = opening-node
