use Rattle.std.proofs.Common.{◌+◌, mod-lt, lit<}
use Rattle.invariant_laws.proofs.Sendable.{sent_ping}
use Rattle.conversation.proofs.rounds.start_plain_round.Goals as goal

pub push-requires : goal.push-requires
push-requires c = sent_ping _ (mod-lt (c.begun-number.result + 1) (lit< tt))
