-- Each clause is a lemma.
use Rattle.pool_laws.proofs.Insertions.{tx-transaction_of}
use Rattle.invariant_laws.proofs.Sending.{opening-sendable, on_message-sendable, on_addition-sendable, on_start-sendable}
use Rattle.invariant_laws.proofs.what_is_sent_may_be_sent.Goals as goal

pub returns-clause-opening : goal.returns-clause-opening
returns-clause-opening c = opening-sendable

pub returns-clause-by_message : goal.returns-clause-by_message
returns-clause-by_message c = λ s m h sound. on_message-sendable s h m sound

pub returns-clause-by_addition : goal.returns-clause-by_addition
returns-clause-by_addition c = λ s tx h may. on_addition-sendable s h tx (tx-transaction_of tx may)

pub returns-clause-by_round : goal.returns-clause-by_round
returns-clause-by_round c = on_start-sendable
