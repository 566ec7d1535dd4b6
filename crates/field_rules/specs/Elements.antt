-- Field elements as numbers: a number is the polynomial over GF(2) that has bit i as the coefficient of x ^ i.
use Rattle.std.specs.Prelude.{◌≡◌, ℕ, zero, suc, ◌+◌, ◌*◌, ◌^◌, ◌<◌, ◌==◌, if◌then◌else◌, bit_xor}
use Rattle.std.specs.Int.{bit_at}
use Rattle.field_rules.specs.Ops.{Ops}

-- the exclusive or of a * 2 ^ i over the bits i below n at which b has a 1: where b is below 2 ^ n, the product of
-- the two polynomials, which is the product without carries
unfoldable pub carryless_product : ℕ → ℕ → ℕ → ℕ
carryless_product zero a b = 0
carryless_product (suc n) a b = bit_xor (carryless_product n a b) (bit_at b n * (a * 2 ^ n))

-- the terms of the modulus below its highest: x ^ 7 + x ^ 3 + x ^ 2 + 1 at 32 bits, x ^ 5 + x ^ 3 + x + 1 at 16 and
-- x ^ 4 + x ^ 3 + x + 1 at 64. These are libminisketch's fields of these sizes
abbrev pub low_terms : ℕ → ℕ
low_terms width = if width == 16 then 0x2B else (if width == 64 then 0x1B else 0x8D)

-- the modulus of the field of 2 ^ width elements
abbrev pub modulus : ℕ → ℕ
modulus width = 2 ^ width + low_terms width

-- a width at which the modulus has the degree width
abbrev pub IsWidth : ℕ → Type 0
IsWidth width = low_terms width < 2 ^ width

-- r is the product of a and b in the field of 2 ^ width elements: the remainder of their carryless product by the
-- modulus, which is what is left of it once a carryless multiple of the modulus is taken away
pub record IsProduct (width a b r : ℕ) : Type 0 where
  pub below : r < 2 ^ width
  pub quotient : ℕ
  pub divides : carryless_product width a b ≡ bit_xor (carryless_product (width + 1) quotient (modulus width)) r

-- what long division by the modulus leaves of p, which is below 2 ^ (width + n)
unfoldable pub remainder : ℕ → ℕ → ℕ → ℕ
remainder width zero p = p
remainder width (suc i) p = remainder width i (bit_xor p (bit_at p (width + i) * (modulus width * 2 ^ i)))

-- the product of two elements, by long division
unfoldable pub product : ℕ → ℕ → ℕ → ℕ
product width a b = remainder width width (carryless_product width a b)

-- the field of 2 ^ width elements over numbers
abbrev pub numbers : ℕ → Ops ℕ
numbers width = record { zero = 0; one = 1; plus = bit_xor; times = product width }
