-- A recurrence by its polynomial 1 + c_1 z + .. + c_L z^L and its monic form z^L + c_1 z^(L-1) + .. + c_L.
use Rattle.std.specs.Prelude.{List, drop, reverse}
use Rattle.field_rules.specs.Ops.{Ops}
use Rattle.poly_rules.specs.Polynomials.{IsMonic, IsSamePolynomial, degree}

-- c_1, .., c_L, read from the coefficients c_L, .., c_1, 1 of the monic form
abbrev pub coefficients_of : {A : Type 0} → List A → List A
coefficients_of monic = drop 1 (reverse monic)

-- both are of one recurrence
pub record IsLocator {A : Type 0} (ops : Ops A) (poly monic : List A) : Type 0 where
  pub is_monic : IsMonic ops (degree monic) monic
  pub is_poly : IsSamePolynomial ops poly (reverse monic)
