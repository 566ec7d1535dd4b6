-- Each clause is a lemma.
use Rattle.poly_laws.proofs.Division.{remainder_exists}
use Rattle.poly_laws.proofs.Remainders.{remainder_same, remainder_only}
use Rattle.poly_laws.proofs.one_remainder.Goals as goal

pub returns-clause-exists : goal.returns-clause-exists
returns-clause-exists g c = λ ops n f a ring monic. remainder_exists ops ring n f a monic

pub returns-clause-unique : goal.returns-clause-unique
returns-clause-unique g c = λ ops n f a r s ring. remainder_same ops ring n f a r s

pub returns-clause-one_list : goal.returns-clause-one_list
returns-clause-one_list g c = λ ops n f a r s ring. remainder_only ops ring n f a r s
