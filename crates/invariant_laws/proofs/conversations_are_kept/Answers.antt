-- Each clause is a lemma.
use Rattle.pool_laws.proofs.Insertions.{tx-transaction_of}
use Rattle.invariant_laws.proofs.Conversing.{opening-conversing, on_message-conversing, on_addition-conversing, on_start-conversing}
use Rattle.invariant_laws.proofs.conversations_are_kept.Goals as goal

pub returns-clause-opening : goal.returns-clause-opening
returns-clause-opening c = opening-conversing

pub returns-clause-by_message : goal.returns-clause-by_message
returns-clause-by_message c = on_message-conversing

pub returns-clause-by_addition : goal.returns-clause-by_addition
returns-clause-by_addition c = λ s tx h may. on_addition-conversing s tx h (tx-transaction_of tx may)

pub returns-clause-by_round : goal.returns-clause-by_round
returns-clause-by_round c = on_start-conversing
