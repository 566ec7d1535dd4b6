-- Each clause is a lemma.
use Rattle.poly_laws.proofs.Remainders.{remainder_sum, remainder_product}
use Rattle.poly_laws.proofs.remainders_respect_sums_and_products.Goals as goal

pub returns-clause-sums : goal.returns-clause-sums
returns-clause-sums g c = λ ops f a b r s ring. remainder_sum ops ring f a b r s

pub returns-clause-products : goal.returns-clause-products
returns-clause-products g c = λ ops f a b r s t ring. remainder_product ops ring f a b r s t
