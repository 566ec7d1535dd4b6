-- Each clause is a lemma.
use Rattle.pool_laws.proofs.Insertions.{insertion_of-kept, insertion_of-outcome}
use Rattle.pool_laws.proofs.insertions_keep_pools.Goals as goal

pub returns-clause-kept : goal.returns-clause-kept
returns-clause-kept c = insertion_of-kept

pub returns-clause-outcome : goal.returns-clause-outcome
returns-clause-outcome c = insertion_of-outcome
