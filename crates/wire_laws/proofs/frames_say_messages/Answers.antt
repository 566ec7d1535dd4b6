-- The clause is a lemma.
use Rattle.wire_laws.proofs.Said.{message_of-said}
use Rattle.wire_laws.proofs.frames_say_messages.Goals as goal

pub returns : goal.returns
returns c = message_of-said
