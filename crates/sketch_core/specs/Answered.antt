-- The set that a decoding found, as numbers.
use Rattle.std.specs.Prelude.{ℕ, List, map, Option, Some, None}
use Rattle.sketch_core.specs.declared.decoded.Decoded.{Decoded}
use Rattle.sketch_core.specs.declared.decoded.Decoded.TheVariants.{Found, NoSet}

abbrev pub decoded_numbers : {F : Type 0} → (F → ℕ) → Decoded F → Option (List ℕ)
decoded_numbers bits_of (Found es) = Some (map bits_of es)
decoded_numbers bits_of NoSet = None
