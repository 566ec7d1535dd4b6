-- Fractions whose terms are sums of odd powers, as lists of coefficients.
use Rattle.std.specs.Prelude.{◌≡◌, ℕ, suc, ◌<◌, List, length, slice_index, slice_index_or}
use Rattle.clmul_lanes.specs.declared.lane32.Lane32.{Lane32}
use Rattle.clmul_lanes.specs.Lane32.{ops, bits_of, zero_of}
use Rattle.fraction_laws.specs.Fractions.{denominator, numerator}
use Rattle.fraction_laws.specs.Locators.{locator}

-- the list has the coefficients of the numerator that belongs to the elements and to the powers from 2 i + 1 on
abbrev pub IsNumerator : ℕ → List Lane32 → List Lane32 → Type 0
IsNumerator i es list = (j : ℕ) → j < 33 → slice_index_or list j zero_of ≡ numerator ops i es j

-- the list has the coefficients of the product of the elements' factors 1 + e z, from that of z on
pub record IsLocator (es list : List Lane32) : Type 0 where
  pub size : length list ≡ 32
  pub each : (j : ℕ) → j < 32 → slice_index_or list j zero_of ≡ locator ops es (suc j)

-- the bits of the coefficients of the denominator that belongs to the elements, from the second on
abbrev pub IsLaterDenominator : List Lane32 → List ℕ → Type 0
IsLaterDenominator es rest = (j : ℕ) → j < 32 → slice_index rest j ≡ bits_of (denominator ops es (suc j))
