use Rattle.wire_rules.specs.Lent.{lent_frame}
use Rattle.recon_messages.proofs.Sent.{decoded_sent}
use Rattle.recon_messages.proofs.decoding.decode_ref.Goals as goal

pub returns-clause-sent : goal.returns-clause-sent
returns-clause-sent c = decoded_sent (lent_frame c.args.frame.now) c.message_of.result c.message_of.ensures
