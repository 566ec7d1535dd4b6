-- What may stand for a number when only its remainder by the modulus counts.
use Rattle.std.specs.Prelude.{◌≡◌, ℕ, ◌+◌, bit_xor}
use Rattle.field_rules.specs.Elements.{carryless_product, modulus}

-- r is what is left of p once a carryless multiple of the modulus is taken away. It need not be below 2 ^ width
pub record IsRest (width p r : ℕ) : Type 0 where
  pub quotient : ℕ
  pub divides : p ≡ bit_xor (carryless_product (width + 1) quotient (modulus width)) r
