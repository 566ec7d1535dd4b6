-- Both clauses are lemmas.
use Rattle.field_laws.proofs.Products.{product-is, product-only}
use Rattle.field_laws.proofs.one_product.Goals as goal

pub returns-clause-exists : goal.returns-clause-exists
returns-clause-exists c = product-is

pub returns-clause-unique : goal.returns-clause-unique
returns-clause-unique c = product-only
