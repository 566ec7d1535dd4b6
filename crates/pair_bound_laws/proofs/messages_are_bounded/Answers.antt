-- The lemma.
use Rattle.pair_bound_laws.proofs.Counts.{messages_are_bounded}
use Rattle.pair_bound_laws.proofs.messages_are_bounded.Goals as goal

pub returns : goal.returns
returns c = messages_are_bounded
