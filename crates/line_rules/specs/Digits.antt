-- Hexadecimal digits in a line of text.
use Rattle.std.specs.Prelude.{ℕ, List, Ok, Err}
use Rattle.std.specs.Int.{to_be_bytes, w32}
use Rattle.std.specs.declared.result.Result.{Result}
use Rattle.hex.specs.Hex.{decode_of, encode_lower}
use Rattle.hex.specs.declared.error.FromHexError.{FromHexError}
use Rattle.hex.specs.declared.error.FromHexError.TheVariants as hex
use Rattle.base_types.specs.declared.text.Kind.{Kind}
use Rattle.base_types.specs.declared.text.Kind.TheVariants as kind

-- goes on behind a part of a line that is sound
infixl 10 ◌>>=◌
abbrev pub ◌>>=◌ : {A B : Type 0} → Result A Kind → (A → Result B Kind) → Result B Kind
Ok x >>= next = next x
Err k >>= next = Err k

abbrev pub kind_of : FromHexError → Kind
kind_of hex.OddLength = kind.OddDigits
kind_of other = kind.BadDigit

abbrev pub with_kind : Result (List ℕ) FromHexError → Result (List ℕ) Kind
with_kind (Ok bytes) = Ok bytes
with_kind (Err e) = Err (kind_of e)

-- the bytes that digits of either case spell, two digits each
abbrev pub bytes_in : List ℕ → Result (List ℕ) Kind
bytes_in text = with_kind (decode_of text)

-- the 8 digits of a number of 32 bits, the most significant first, in lower case
abbrev pub eight_digits : ℕ → List ℕ
eight_digits n = encode_lower (to_be_bytes w32 n)
