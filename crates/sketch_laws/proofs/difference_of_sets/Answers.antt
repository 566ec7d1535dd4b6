-- Each clause is a lemma.
use Rattle.sketch_laws.proofs.Sets.{difference-rises, difference-holds}
use Rattle.sketch_laws.proofs.Merging.{sketch_sum-sketches}
use Rattle.sketch_laws.proofs.difference_of_sets.Goals as goal

pub returns-clause-rises : goal.returns-clause-rises
returns-clause-rises c = difference-rises

pub returns-clause-holds : goal.returns-clause-holds
returns-clause-holds c = difference-holds

pub returns-clause-sketches : goal.returns-clause-sketches
returns-clause-sketches c = sketch_sum-sketches
