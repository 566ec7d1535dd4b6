-- Words byte by byte.
use Rattle.std.specs.Prelude.{◌≡◌, ℕ, ◌*◌, ◌/◌, ◌%◌, ◌^◌, ◌<◌, List, [], map, slice_index_or}

-- byte b of a word, where byte 0 is the lowest
abbrev pub byte_of : ℕ → ℕ → ℕ
byte_of b w = w / 2 ^ (8 * b) % 256

-- plane b of a list of words has byte b of each
abbrev pub ArePlanes : List ℕ → List (List ℕ) → Type 0
ArePlanes words planes = (b : ℕ) → b < 4 → slice_index_or planes b [] ≡ map (byte_of b) words
