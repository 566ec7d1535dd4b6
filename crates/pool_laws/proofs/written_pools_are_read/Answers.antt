-- Each clause is a lemma.
use Rattle.pool_laws.proofs.Written.{pool_in-text, length-text}
use Rattle.pool_laws.proofs.Read.{pool_in-sound}
use Rattle.pool_laws.proofs.written_pools_are_read.Goals as goal

pub returns-clause-written : goal.returns-clause-written
returns-clause-written c = pool_in-text

pub returns-clause-sound : goal.returns-clause-sound
returns-clause-sound c = pool_in-sound

pub returns-clause-short : goal.returns-clause-short
returns-clause-short c = length-text
