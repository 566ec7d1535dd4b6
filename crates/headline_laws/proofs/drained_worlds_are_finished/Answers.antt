-- The clause is a lemma.
use Rattle.headline_laws.proofs.Headline.{headline}
use Rattle.headline_laws.proofs.drained_worlds_are_finished.Goals as goal

pub returns : goal.returns
returns c = headline
