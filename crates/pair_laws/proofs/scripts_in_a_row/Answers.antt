-- Each clause is a lemma.
use Rattle.pair_rules.proofs.Runs.{run_from-ended}
use Rattle.pair_laws.proofs.Effects.{run_from-both, run_from-few}
use Rattle.pair_laws.proofs.scripts_in_a_row.Goals as goal

pub returns-clause-behind : goal.returns-clause-behind
returns-clause-behind c = λ w first second. run_from-both first second w

pub returns-clause-last : goal.returns-clause-last
returns-clause-last c = λ w script. run_from-few script w

pub returns-clause-ended : goal.returns-clause-ended
returns-clause-ended c = λ w script ended. run_from-ended script w ended
