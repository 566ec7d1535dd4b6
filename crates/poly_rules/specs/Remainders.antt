-- Remainders of polynomials.
use Rattle.std.specs.Prelude.{◌≡◌, ℕ, ◌+◌, ◌^◌, ◌<◌, ◌≤◌, List, [], length, get_or}
use Rattle.field_rules.specs.Ops.{Ops}
use Rattle.poly_rules.specs.Polynomials.{IsSamePolynomial, sum_of, product_of, monomial}

-- r is the remainder of a by f: it has fewer coefficients than f, and it is a without some multiple of f
pub record IsRemainder {A : Type 0} (ops : Ops A) (a f r : List A) : Type 0 where
  pub below : length r < length f
  pub quotient : List A
  pub divides : IsSamePolynomial ops a (sum_of ops (product_of ops quotient f) r)

-- the remainders of x, x ^ 2, x ^ 4, .., x ^ (2 ^ n) by f
pub record IsFrobeniusTable {A : Type 0} (ops : Ops A) (f : List A) (n : ℕ) (table : List (List A)) : Type 0 where
  pub size : length table ≡ n + 1
  pub each : (j : ℕ) → j ≤ n → IsRemainder ops (monomial ops (2 ^ j)) f (get_or table j [])
