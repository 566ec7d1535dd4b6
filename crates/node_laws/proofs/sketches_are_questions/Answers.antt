-- Each clause is a lemma.
use Rattle.node_laws.proofs.Questions.{opener_sketch-refused, opener_sketch-answered}
use Rattle.node_laws.proofs.sketches_are_questions.Goals as goal

pub returns-clause-refused : goal.returns-clause-refused
returns-clause-refused c = opener_sketch-refused

pub returns-clause-answered : goal.returns-clause-answered
returns-clause-answered c = opener_sketch-answered
