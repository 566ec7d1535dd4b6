-- Each clause is a lemma.
use Rattle.stream_laws.proofs.StreamLaws.{frames-stop, frames-stream, payload-first, payload-stop}
use Rattle.stream_laws.proofs.frames_make_streams.Goals as goal

pub returns-clause-read : goal.returns-clause-read
returns-clause-read c = λ magic bytes fs ms rest read frames. frames-stream magic bytes fs ms read rest frames

pub returns-clause-stop : goal.returns-clause-stop
returns-clause-stop c = λ magic offset bytes fs ms fault read s. frames-stop magic bytes fs ms read offset fault s

pub returns-clause-payload : goal.returns-clause-payload
returns-clause-payload c = λ magic offset bytes fs gs f ms fault rest four read first frames. payload-stop magic bytes fs ms read offset f gs fault four first rest frames

pub returns-clause-earlier : goal.returns-clause-earlier
returns-clause-earlier c = λ magic offset bytes fs gs f ms fault other four read first s. payload-first magic bytes fs ms read offset f gs fault four first other s
