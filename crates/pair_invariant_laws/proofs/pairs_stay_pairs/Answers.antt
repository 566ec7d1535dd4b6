-- Each clause is a lemma.
use Rattle.pair_invariant_laws.proofs.Opening.{opening_kept}
use Rattle.pair_invariant_laws.proofs.Worlds.{kept_by_event, kept_by_run}
use Rattle.pair_invariant_laws.proofs.pairs_stay_pairs.Goals as goal

pub returns-clause-opening : goal.returns-clause-opening
returns-clause-opening c = opening_kept

pub returns-clause-by_event : goal.returns-clause-by_event
returns-clause-by_event c = kept_by_event

pub returns-clause-by_run : goal.returns-clause-by_run
returns-clause-by_run c = kept_by_run
