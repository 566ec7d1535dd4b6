use Rattle.invariant_laws.proofs.Sendable.{sent_request}
use Rattle.conversation.proofs.rounds.start_round.Goals as goal

pub push-requires : goal.push-requires
push-requires c = sent_request c.args.size c.coefficient-q.result c.ranges.size.fits c.coefficient-q.type_inv
