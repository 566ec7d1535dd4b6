use Rattle.recon_messages.proofs.Sent.{decoded_sent}
use Rattle.recon_messages.proofs.decoding.decode_frame.Goals as goal

pub returns-clause-sent : goal.returns-clause-sent
returns-clause-sent c = decoded_sent c.args.frame.now c.message_of.result (rw c.as_slice.ensures at c.message_of.ensures)
