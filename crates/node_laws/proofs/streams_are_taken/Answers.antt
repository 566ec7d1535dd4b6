-- Each clause is a lemma.
use Rattle.node_laws.proofs.Streaming.{on_piece-stream, on_piece-rest, on_piece-stop}
use Rattle.node_laws.proofs.streams_are_taken.Goals as goal

pub returns-clause-messages : goal.returns-clause-messages
returns-clause-messages c = on_piece-stream

pub returns-clause-rest : goal.returns-clause-rest
returns-clause-rest c = on_piece-rest

pub returns-clause-fault : goal.returns-clause-fault
returns-clause-fault c = on_piece-stop
