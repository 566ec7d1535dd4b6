-- Each clause is a lemma, or a part of one.
use Rattle.pool_laws.proofs.Insertions.{tx-transaction_of}
use Rattle.invariant_laws.proofs.Joined.{on_message-node, on_messages-sound, on_piece-sound, on_addition-node, on_start-node}
use Rattle.invariant_laws.proofs.nodes_stay_nodes.Goals as goal

pub returns-clause-by_message : goal.returns-clause-by_message
returns-clause-by_message c = λ s m h sound. on_message-node s h m sound

pub returns-clause-by_messages : goal.returns-clause-by_messages
returns-clause-by_messages c = λ s ms h sound. (on_messages-sound s ms h sound).node

pub returns-clause-by_piece : goal.returns-clause-by_piece
returns-clause-by_piece c = λ s piece h bytes. (on_piece-sound s piece h bytes).node

pub returns-clause-by_addition : goal.returns-clause-by_addition
returns-clause-by_addition c = λ s tx h may. on_addition-node s h tx (tx-transaction_of tx may)

pub returns-clause-by_round : goal.returns-clause-by_round
returns-clause-by_round c = on_start-node
