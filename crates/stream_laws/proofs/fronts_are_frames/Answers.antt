-- Each clause is a lemma.
use Rattle.stream_laws.proofs.Fronts.{front_of-frame, front_of-cut}
use Rattle.stream_laws.proofs.Found.{front-found, whole-size}
use Rattle.stream_laws.proofs.Offsets.{later_offset-later_offset}
use Rattle.stream_laws.proofs.Stays.{front-stays, partial-anywhere}
use Rattle.stream_laws.proofs.fronts_are_frames.Goals as goal

pub returns-clause-whole : goal.returns-clause-whole
returns-clause-whole c = front_of-frame

pub returns-clause-cut : goal.returns-clause-cut
returns-clause-cut c = λ magic f n four sound h. record { front = front_of-cut magic 0 f n four sound h }

pub returns-clause-first : goal.returns-clause-first
returns-clause-first c = front-found

pub returns-clause-size : goal.returns-clause-size
returns-clause-size c = whole-size

pub returns-clause-stays : goal.returns-clause-stays
returns-clause-stays c = front-stays

pub returns-clause-partial : goal.returns-clause-partial
returns-clause-partial c = partial-anywhere

pub returns-clause-offsets : goal.returns-clause-offsets
returns-clause-offsets c = later_offset-later_offset
