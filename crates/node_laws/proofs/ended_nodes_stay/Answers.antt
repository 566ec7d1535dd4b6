-- Each clause is a lemma.
use Rattle.node_laws.proofs.Ended.{on_piece-ended, on_addition-ended, on_start-ended}
use Rattle.node_laws.proofs.ended_nodes_stay.Goals as goal

pub returns-clause-by_piece : goal.returns-clause-by_piece
returns-clause-by_piece c = on_piece-ended

pub returns-clause-by_addition : goal.returns-clause-by_addition
returns-clause-by_addition c = on_addition-ended

pub returns-clause-by_round : goal.returns-clause-by_round
returns-clause-by_round c = on_start-ended
