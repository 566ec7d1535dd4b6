-- Each clause is a lemma.
use Rattle.std.proofs.Common.{sym, ap, ◌∙◌}
use Rattle.stream_laws.specs.FrameReading.{frames_of}
use Rattle.stream_laws.proofs.FrameSteps.{frames_of-more, frames_of-pieces}
use Rattle.stream_laws.proofs.FrameLaws.{frames-join, stop-join, stop-stays}
use Rattle.stream_laws.proofs.pieces_are_read_as_one.Goals as goal

pub returns-clause-frames : goal.returns-clause-frames
returns-clause-frames c = λ magic p q fs gs rest left first second. frames-join magic p rest q fs gs first left second

pub returns-clause-stop : goal.returns-clause-stop
returns-clause-stop c = λ magic offset p q fs gs rest fault first second. stop-join magic p rest q fs gs first offset fault second

pub returns-clause-stopped : goal.returns-clause-stopped
returns-clause-stopped c = stop-stays

pub returns-clause-more : goal.returns-clause-more
returns-clause-more c = frames_of-more

pub returns-clause-pieces : goal.returns-clause-pieces
returns-clause-pieces c = frames_of-pieces

pub returns-clause-cuts : goal.returns-clause-cuts
returns-clause-cuts c = λ magic offset ps qs e. frames_of-pieces magic offset ps ∙ (ap (λ bytes. frames_of magic offset bytes) e ∙ sym (frames_of-pieces magic offset qs))
