-- What may stand for a polynomial when only its remainder counts, and quotients.
use Rattle.std.specs.Prelude.{◌≤◌, List, length}
use Rattle.field_rules.specs.Ops.{Ops}
use Rattle.poly_rules.specs.Polynomials.{degree, IsSamePolynomial, sum_of, product_of}

-- r is a without some multiple of f, and may have any number of coefficients
pub record IsRest {A : Type 0} (ops : Ops A) (f a r : List A) : Type 0 where
  pub quotient : List A
  pub divides : IsSamePolynomial ops a (sum_of ops (product_of ops quotient f) r)

-- a is q times f, and a rest of fewer coefficients than f has
pub record IsQuotient {A : Type 0} (ops : Ops A) (a f q : List A) : Type 0 where
  pub rest : List A
  pub short : length rest ≤ degree f
  pub divides : IsSamePolynomial ops a (sum_of ops (product_of ops q f) rest)
