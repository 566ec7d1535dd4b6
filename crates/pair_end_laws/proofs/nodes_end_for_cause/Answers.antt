-- The lemma.
use Rattle.pair_end_laws.proofs.Ending.{nodes_end_for_cause}
use Rattle.pair_end_laws.proofs.nodes_end_for_cause.Goals as goal

pub returns : goal.returns
returns c = nodes_end_for_cause
