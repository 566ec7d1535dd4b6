-- Each clause is a lemma.
use Rattle.node_laws.proofs.LaterSteps.{on_message-later, on_messages-later, on_piece-later, on_addition-later, on_start-later}
use Rattle.node_laws.proofs.nodes_only_grow.Goals as goal

pub returns-clause-by_message : goal.returns-clause-by_message
returns-clause-by_message c = on_message-later

pub returns-clause-by_messages : goal.returns-clause-by_messages
returns-clause-by_messages c = on_messages-later

pub returns-clause-by_piece : goal.returns-clause-by_piece
returns-clause-by_piece c = on_piece-later

pub returns-clause-by_addition : goal.returns-clause-by_addition
returns-clause-by_addition c = on_addition-later

pub returns-clause-by_round : goal.returns-clause-by_round
returns-clause-by_round c = on_start-later
