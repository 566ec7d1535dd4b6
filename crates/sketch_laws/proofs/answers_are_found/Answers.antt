-- Both clauses are laws of the search.
use Rattle.sketch_rules.specs.Answers.{answer_at-some, answer_at-none}
use Rattle.sketch_laws.proofs.answers_are_found.Goals as goal

pub returns-clause-some : goal.returns-clause-some
returns-clause-some c = answer_at-some

pub returns-clause-none : goal.returns-clause-none
returns-clause-none c = λ width sums es none. answer_at-none width sums none es
