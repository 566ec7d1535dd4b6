-- The clause is a lemma.
use Rattle.pair_laws.proofs.Growing.{run_from-extends}
use Rattle.pair_laws.proofs.pools_only_grow.Goals as goal

pub returns : goal.returns
returns c = λ w script. run_from-extends script w
