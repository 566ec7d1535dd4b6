-- Decimal numbers as text: without a sign, and without a zero in front.
use Rattle.std.specs.Prelude.{ℕ, ◌+◌, ◌-◌, ◌*◌, ◌&&◌, nat_le, if◌then◌else◌, Bool, List, [], ◌∷◌, bytes_eq, Some, None, option_and_then}
use Rattle.std.specs.Fmt.{decimal}
use Rattle.std.specs.declared.option.Option.{Option}

abbrev pub is_digit : ℕ → Bool
is_digit b = nat_le 48 b && nat_le b 57

-- the number of some digits, behind those of n
unfoldable pub digits_onto : ℕ → List ℕ → Option ℕ
digits_onto n [] = Some n
digits_onto n (b ∷ rest) = if is_digit b then digits_onto (n * 10 + (b - 48)) rest else None

abbrev pub number_of : List ℕ → Option ℕ
number_of word = digits_onto 0 word

-- the number, where it is within these bounds and the word is how it is written
abbrev pub bounded : ℕ → ℕ → List ℕ → ℕ → Option ℕ
bounded low high word n = if nat_le low n && nat_le n high && bytes_eq (decimal n) word then Some n else None

abbrev pub number_within : ℕ → ℕ → List ℕ → Option ℕ
number_within low high word = option_and_then (bounded low high word) (number_of word)
