-- Each clause is a lemma.
use Rattle.stream_laws.proofs.FrameSteps.{frames_of-next}
use Rattle.stream_laws.proofs.FrameLaws.{frames-apart, frames-of, frames-one, frames-or-stop, frames_of-frames, frames_of-stop, stop-of, stop-one}
use Rattle.stream_laws.proofs.bytes_have_one_reading.Goals as goal

pub returns-clause-next : goal.returns-clause-next
returns-clause-next c = frames_of-next

pub returns-clause-frames : goal.returns-clause-frames
returns-clause-frames c = λ magic offset bytes fs rest four low frames. frames_of-frames magic four offset bytes fs low rest frames

pub returns-clause-stop : goal.returns-clause-stop
returns-clause-stop c = λ magic offset bytes fs fault four low s. frames_of-stop magic four offset bytes fs low fault s

pub returns-clause-is_frames : goal.returns-clause-is_frames
returns-clause-is_frames c = frames-of

pub returns-clause-is_stop : goal.returns-clause-is_stop
returns-clause-is_stop c = λ magic offset bytes fault low sound e. stop-of magic offset bytes low sound fault e

pub returns-clause-either : goal.returns-clause-either
returns-clause-either c = frames-or-stop

pub returns-clause-not_both : goal.returns-clause-not_both
returns-clause-not_both c = λ magic offset bytes fs gs rest fault four a b. frames-apart magic four bytes fs gs offset rest fault a b

pub returns-clause-one : goal.returns-clause-one
returns-clause-one c = λ magic bytes fs gs rest left four a b. frames-one magic four bytes fs gs rest left a b

pub returns-clause-one_stop : goal.returns-clause-one_stop
returns-clause-one_stop c = λ magic offset bytes fs gs fault other four a b. stop-one magic four bytes fs gs offset fault other a b
