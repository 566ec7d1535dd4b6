-- The lemma.
use Rattle.pair_bound_laws.proofs.Deliveries.{deliveries_drain}
use Rattle.pair_bound_laws.proofs.deliveries_drain.Goals as goal

pub returns : goal.returns
returns c = deliveries_drain
