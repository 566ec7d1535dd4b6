-- Each clause is a lemma.
use Rattle.pool_laws.proofs.Capacity.{next_q-small, next_q_failed-small}
use Rattle.pool_laws.proofs.coefficients_fit.Goals as goal

pub returns-clause-answered : goal.returns-clause-answered
returns-clause-answered c = next_q-small

pub returns-clause-failed : goal.returns-clause-failed
returns-clause-failed c = next_q_failed-small
