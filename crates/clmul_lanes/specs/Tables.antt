-- Tables of the multiples of one factor.
use Rattle.std.specs.Prelude.{◌≡◌, ℕ, ◌*◌, ◌/◌, ◌%◌, ◌^◌, ◌<◌, List, [], slice_index, slice_index_or}
use Rattle.field_rules.specs.Elements.{product}

-- index j of a table has the factor's product with the polynomial j, i nibbles up
abbrev pub IsTable : ℕ → ℕ → List ℕ → Type 0
IsTable factor i table = (j : ℕ) → j < 16 → slice_index table j ≡ product 32 factor (j * 2 ^ (4 * i))

-- table i is for nibble i of the other factor, where nibble 0 is the lowest
abbrev pub AreTables : ℕ → List (List ℕ) → Type 0
AreTables factor tables = (i : ℕ) → i < 8 → IsTable factor i (slice_index_or tables i [])

-- index j of a byte table has byte b of that product
abbrev pub IsByteTable : ℕ → ℕ → ℕ → List ℕ → Type 0
IsByteTable factor i b table = (j : ℕ) → j < 16 → slice_index table j ≡ product 32 factor (j * 2 ^ (4 * i)) / 2 ^ (8 * b) % 256

-- table b at i is for nibble i of the other factor and byte b of the product, where nibble 0 and byte 0 are the lowest
abbrev pub AreByteTables : ℕ → List (List (List ℕ)) → Type 0
AreByteTables factor tables = (i : ℕ) → i < 8 → (b : ℕ) → b < 4 → IsByteTable factor i b (slice_index_or (slice_index_or tables i []) b [])
