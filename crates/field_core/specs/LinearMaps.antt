-- Maps of words of 32 bits that keep exclusive ors, and their tables.
use Rattle.std.specs.Prelude.{◌≡◌, ℕ, ◌*◌, ◌^◌, ◌<◌, List, [], slice_index, slice_index_or, bit_xor}

-- f keeps exclusive ors of words: it is linear over the field of two elements
abbrev pub IsLinear : (ℕ → ℕ) → Type 0
IsLinear f = (a b : ℕ) → a < 2 ^ 32 → b < 2 ^ 32 → f (bit_xor a b) ≡ bit_xor (f a) (f b)

-- table i has at index j what f gives for j, i nibbles up
abbrev pub AreTablesOf : (ℕ → ℕ) → List (List ℕ) → Type 0
AreTablesOf f tables = (i : ℕ) → i < 8 → (j : ℕ) → j < 16 → slice_index (slice_index_or tables i []) j ≡ f (j * 2 ^ (4 * i))
