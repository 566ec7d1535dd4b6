-- Each clause is a lemma.
use Rattle.node_laws.proofs.OutOfMemory.{out_of_memory-pool, out_of_memory-piece, out_of_memory-addition, out_of_memory-start}
use Rattle.node_laws.proofs.nodes_out_of_memory_stay.Goals as goal

pub returns-clause-pool : goal.returns-clause-pool
returns-clause-pool c = out_of_memory-pool

pub returns-clause-by_piece : goal.returns-clause-by_piece
returns-clause-by_piece c = out_of_memory-piece

pub returns-clause-by_addition : goal.returns-clause-by_addition
returns-clause-by_addition c = out_of_memory-addition

pub returns-clause-by_round : goal.returns-clause-by_round
returns-clause-by_round c = out_of_memory-start
