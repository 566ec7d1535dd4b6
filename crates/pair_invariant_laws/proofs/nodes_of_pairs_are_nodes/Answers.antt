-- The clause is a lemma.
use Rattle.pair_invariant_laws.proofs.Worlds.{nodes_of_run}
use Rattle.pair_invariant_laws.proofs.nodes_of_pairs_are_nodes.Goals as goal

pub returns : goal.returns
returns c = nodes_of_run
