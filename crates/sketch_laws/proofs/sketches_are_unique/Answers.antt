-- Each clause is a lemma.
use Rattle.sketch_laws.proofs.Unique.{answer_unique, answer_at-is, elements_unique}
use Rattle.sketch_laws.proofs.sketches_are_unique.Goals as goal

pub returns-clause-elements : goal.returns-clause-elements
returns-clause-elements g c = elements_unique

pub returns-clause-numbers : goal.returns-clause-numbers
returns-clause-numbers g c = answer_unique

pub returns-clause-answer : goal.returns-clause-answer
returns-clause-answer g c = answer_at-is
