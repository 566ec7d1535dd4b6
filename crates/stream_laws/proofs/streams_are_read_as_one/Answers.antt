-- Each clause is a lemma.
use Rattle.stream_laws.proofs.StreamLaws.{stop-join, stop-stays, stream-join}
use Rattle.stream_laws.proofs.streams_are_read_as_one.Goals as goal

pub returns-clause-stream : goal.returns-clause-stream
returns-clause-stream c = λ magic p q ms ns rest left first second. stream-join magic p rest q ms ns first left second

pub returns-clause-stop : goal.returns-clause-stop
returns-clause-stop c = λ magic offset p q ms ns rest fault first second. stop-join magic p rest q ms ns first offset fault second

pub returns-clause-stopped : goal.returns-clause-stopped
returns-clause-stopped c = stop-stays
