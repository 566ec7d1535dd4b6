-- Each clause is a lemma.
use Rattle.pool_laws.proofs.Ids.{short_id-nonzero, short_id-small}
use Rattle.pool_laws.proofs.short_ids_are_elements.Goals as goal

pub returns-clause-nonzero : goal.returns-clause-nonzero
returns-clause-nonzero c = short_id-nonzero

pub returns-clause-small : goal.returns-clause-small
returns-clause-small c = short_id-small
