-- Rows: the multiples of a list of 32 elements, all as bits.
use Rattle.std.specs.Prelude.{◌≡◌, ℕ, ◌+◌, ◌*◌, ◌/◌, ◌%◌, ◌<◌, ◌^◌, List, slice_index}
use Rattle.field_rules.specs.Elements.{product}

-- of the rows below index n, each of 32 words, that at index 16 i + v has the product of each item of the list, which is
-- an element, and the polynomial v, i nibbles up
abbrev pub AreRowsBelow : ℕ → List ℕ → List ℕ → Type 0
AreRowsBelow n list rows = (r j : ℕ) → r < n → j < 32 → slice_index list j < 2 ^ 32
    → slice_index rows (32 * r + j) ≡ product 32 (slice_index list j) (r % 16 * 2 ^ (4 * (r / 16)))

-- the multiples by each value of each nibble of an element
abbrev pub AreRows : List ℕ → List ℕ → Type 0
AreRows list rows = AreRowsBelow 128 list rows
