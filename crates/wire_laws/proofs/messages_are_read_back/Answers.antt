-- Each clause is a lemma.
use Rattle.wire_laws.proofs.Messages.{message_of-frame_of, frame_of-injective}
use Rattle.wire_laws.proofs.Sound.{frame_of-sound}
use Rattle.wire_laws.proofs.messages_are_read_back.Goals as goal

pub returns-clause-sound : goal.returns-clause-sound
returns-clause-sound c = frame_of-sound

pub returns-clause-said : goal.returns-clause-said
returns-clause-said c = message_of-frame_of

pub returns-clause-one : goal.returns-clause-one
returns-clause-one c = frame_of-injective
