-- Each clause is a lemma.
use Rattle.poly_laws.proofs.Roots.{roots_within, factors_of_roots, with_roots-monic, with_roots-root}
use Rattle.poly_laws.proofs.roots_are_within_the_degree.Goals as goal

pub returns-clause-within : goal.returns-clause-within
returns-clause-within g c = λ ops bits n f rs ring field. roots_within ops ring field.apart field.no_zero_divisor n f rs

pub returns-clause-factors : goal.returns-clause-factors
returns-clause-factors g c = λ ops bits n f rs ring field monic roots differ e. factors_of_roots ops ring field.apart field.no_zero_divisor n f rs monic e roots differ

pub returns-clause-monic : goal.returns-clause-monic
returns-clause-monic g c = λ ops rs ring. with_roots-monic ops ring rs

pub returns-clause-roots : goal.returns-clause-roots
returns-clause-roots g c = λ ops rs ring. with_roots-root ops ring rs
