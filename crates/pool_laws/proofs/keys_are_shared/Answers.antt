-- The clause is a lemma.
use Rattle.pool_laws.proofs.Ids.{keys_of-swap}
use Rattle.pool_laws.proofs.keys_are_shared.Goals as goal

pub returns : goal.returns
returns c = keys_of-swap
