-- The lemma.
use Rattle.pair_end_laws.proofs.Ending.{rounds_are_announced}
use Rattle.pair_end_laws.proofs.rounds_are_announced.Goals as goal

pub returns : goal.returns
returns c = rounds_are_announced
