-- Both clauses are lemmas, at 32 bits.
use Rattle.field_laws.proofs.Certified32.{certificate_32}
use Rattle.sketch_laws.proofs.Unique.{numbers_unique, answer_at-exactly}
use Rattle.sketch_laws.proofs.answers_are_unique.Goals as goal

pub returns-clause-unique : goal.returns-clause-unique
returns-clause-unique c = numbers_unique 32 certificate_32

pub returns-clause-exactly : goal.returns-clause-exactly
returns-clause-exactly c = answer_at-exactly 32 certificate_32
