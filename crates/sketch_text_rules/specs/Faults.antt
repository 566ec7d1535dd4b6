-- The texts of faults, each without its line end.
use Rattle.std.specs.Prelude.{ℕ, List, ◌++◌, codes}
use Rattle.std.specs.Fmt.{decimal}
use Rattle.hex.specs.Hex.{encode_lower}
use Rattle.base_types.specs.declared.text.Kind.{Kind}
use Rattle.base_types.specs.declared.text.Kind.TheVariants as kind

-- what is wrong, in words
unfoldable pub kind_text : Kind → List ℕ
kind_text kind.DigitCount = codes "digit count"
kind_text kind.BadDigit = codes "bad digit"
kind_text kind.OddDigits = codes "odd digits"
kind_text kind.Zero = codes "zero"
kind_text kind.Repeated = codes "repeated"
kind_text (kind.RaggedLength n) = codes "ragged length " ++ decimal n
kind_text (kind.TooWide n) = codes "too wide " ++ decimal n
kind_text kind.LineCount = codes "line count"
kind_text kind.LengthsDiffer = codes "lengths differ"
kind_text kind.Form = codes "form"
kind_text kind.TxTooLong = codes "transaction too long"
kind_text (kind.IdMismatch stands computed) = codes "id " ++ encode_lower stands.0 ++ codes " not " ++ encode_lower computed.0
kind_text kind.PoolFull = codes "pool full"
kind_text kind.TooMany = codes "too many"

-- a fault of the input, with its line number, or the number of lines where that is wrong
abbrev pub bad_input_text : ℕ → Kind → List ℕ
bad_input_text number k = codes "bad input " ++ decimal number ++ codes ": " ++ kind_text k

abbrev pub usage_text : List ℕ
usage_text = codes "usage"

abbrev pub read_fault_text : List ℕ
read_fault_text = codes "read fault"

abbrev pub out_of_memory_text : List ℕ
out_of_memory_text = codes "out of memory"

-- an input above a limit
abbrev pub too_long_text : ℕ → List ℕ
too_long_text limit = codes "too long " ++ decimal limit
