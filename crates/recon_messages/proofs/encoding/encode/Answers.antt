use Rattle.wire_laws.proofs.Messages.{message_of-frame_of}
use Rattle.wire_laws.proofs.Sound.{frame_of-sound}
use Rattle.recon_messages.proofs.encoding.encode.Goals as goal

pub returns-clause-sound : goal.returns-clause-sound
returns-clause-sound c = rw (c.command_of_message.ensures, c.from_vec.ensures, c.in_ok-payload.ensures) (frame_of-sound c.args.message.now)

pub returns-clause-said : goal.returns-clause-said
returns-clause-said c = rw (c.command_of_message.ensures, c.from_vec.ensures, c.in_ok-payload.ensures) (message_of-frame_of c.args.message.now)
