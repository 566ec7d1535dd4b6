-- Sketches over numbers, and their bytes.
use Rattle.std.specs.Prelude.{ℕ, ◌≤◌, List, [], ◌∷◌}
use Rattle.std.specs.List.{flat_map}
use Rattle.std.specs.Int.{from_le_bytes, to_le_bytes, w32}
use Rattle.hex.specs.Hex.{encode_lower}
use Rattle.field_rules.specs.Elements.{numbers}
use Rattle.field_rules.specs.Lists.{sums_of_both}
use Rattle.sketch_rules.specs.PowerSums.{sketch_by}
use Rattle.sketch_rules.specs.declared.limits.TheConstants.{MAX_CAPACITY}

-- the sketch of elements of the field of 2 ^ width elements
abbrev pub sketch_at : ℕ → List ℕ → ℕ → List ℕ
sketch_at width es c = sketch_by (numbers width) es c

-- the sketch of elements of 32 bits
abbrev pub sketch_of : List ℕ → ℕ → List ℕ
sketch_of es c = sketch_at 32 es c

-- each sum as 4 bytes, the lowest first, in order: libminisketch's layout of a sketch of 32-bit elements
abbrev pub bytes_of : List ℕ → List ℕ
bytes_of sums = flat_map (to_le_bytes w32) sums

-- a sketch as its line: the digits of its bytes, in lower case, without a line end
abbrev pub digits_of : List ℕ → List ℕ
digits_of sums = encode_lower (bytes_of sums)

-- how many sums a sketch may have
abbrev pub IsCapacity : ℕ → Type 0
IsCapacity c = (1 ≤ c) × (c ≤ MAX_CAPACITY)

-- the sums that bytes spell, 4 bytes each
unfoldable pub sums_in : List ℕ → List ℕ
sums_in (a ∷ b ∷ c ∷ d ∷ rest) = from_le_bytes w32 (a ∷ b ∷ c ∷ d ∷ []) ∷ sums_in rest
sums_in fewer = []

-- the sum of two sketches of one capacity. The sum of two numbers is their exclusive or, whatever the width
abbrev pub sketch_sum : List ℕ → List ℕ → List ℕ
sketch_sum ms ns = sums_of_both (numbers 32) ms ns
