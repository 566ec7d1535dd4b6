-- Each clause is a lemma.
use Rattle.stream_laws.proofs.StreamLaws.{stop-of, stop-one, stream-apart, stream-of, stream-one, stream-or-stop, stream_of-stop, stream_of-stream}
use Rattle.stream_laws.proofs.streams_have_one_reading.Goals as goal

pub returns-clause-read : goal.returns-clause-read
returns-clause-read c = λ magic bytes ms rest four s. stream_of-stream magic bytes ms four rest s

pub returns-clause-stop : goal.returns-clause-stop
returns-clause-stop c = λ magic bytes ms fault four s. stream_of-stop magic bytes ms four fault s

pub returns-clause-is_stream : goal.returns-clause-is_stream
returns-clause-is_stream c = stream-of

pub returns-clause-is_stop : goal.returns-clause-is_stop
returns-clause-is_stop c = λ magic bytes fault sound e. stop-of magic bytes sound fault e

pub returns-clause-either : goal.returns-clause-either
returns-clause-either c = stream-or-stop

pub returns-clause-not_both : goal.returns-clause-not_both
returns-clause-not_both c = λ magic offset bytes ms ns rest fault four a b. stream-apart magic four bytes ms ns offset rest fault a b

pub returns-clause-one : goal.returns-clause-one
returns-clause-one c = λ magic bytes ms ns rest left four a b. stream-one magic four bytes ms ns rest left a b

pub returns-clause-one_stop : goal.returns-clause-one_stop
returns-clause-one_stop c = λ magic offset bytes ms ns fault other four a b. stop-one magic four bytes ms ns offset fault other a b
