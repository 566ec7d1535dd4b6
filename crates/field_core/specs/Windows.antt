-- Tables of windows of 4 bits.
use Rattle.std.specs.Prelude.{◌≡◌, ℕ, ◌<◌, List, slice_index}
use Rattle.field_rules.specs.Elements.{carryless_product}

-- index k of the table has the product of the polynomials a and k, without carries
abbrev pub IsWindowTable : ℕ → List ℕ → Type 0
IsWindowTable a table = (k : ℕ) → k < 16 → slice_index table k ≡ carryless_product 4 a k
