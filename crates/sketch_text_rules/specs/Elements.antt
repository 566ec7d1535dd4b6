-- Elements as text: what `make` reads and `decode` writes.
use Rattle.std.specs.Prelude.{ℕ, ◌^◌, ◌<◌, ◌==◌, ◌++◌, if◌then◌else◌, List, [], ◌∷◌, length, codes, Result, Ok, Err}
use Rattle.std.specs.List.{All, flat_map, list_any}
use Rattle.std.specs.Int.{from_be_bytes, w32}
use Rattle.hex.specs.Hex.{decode_of}
use Rattle.hex.specs.declared.error.FromHexError.{FromHexError}
use Rattle.base_types.specs.declared.text.Kind.{Kind}
use Rattle.base_types.specs.declared.text.Kind.TheVariants as kind
use Rattle.base_types.specs.declared.text.TextFault.{TextFault}
use Rattle.field_rules.specs.Lists.{AreDistinct}
use Rattle.line_rules.specs.Digits.{eight_digits}
use Rattle.line_rules.specs.Lines.{line, lines_of}
use Rattle.line_rules.specs.Reading.{line_fold}

-- an element is a number from 1 on
abbrev pub nonzero_element : ℕ → Result ℕ Kind
nonzero_element e = if e == 0 then Err kind.Zero else Ok e

-- the number whose 4 bytes, the most significant first, a line's digits spell
abbrev pub element_of_bytes : Result (List ℕ) FromHexError → Result ℕ Kind
element_of_bytes (Ok bytes) = nonzero_element (from_be_bytes w32 bytes)
element_of_bytes (Err fault) = Err kind.BadDigit

-- the element of a line, which has 8 digits of either case
abbrev pub element_of : List ℕ → Result ℕ Kind
element_of bytes = if length bytes == 8 then element_of_bytes (decode_of bytes) else Err kind.DigitCount

-- one more element of a set
abbrev pub with_element : List ℕ → Result ℕ Kind → Result (List ℕ) Kind
with_element es (Ok e) = if list_any (λ d. d == e) es then Err kind.Repeated else Ok (es ++ e ∷ [])
with_element es (Err k) = Err k

-- the set whose elements the lines list, in their order
abbrev pub set_in : List ℕ → Result (List ℕ) TextFault
set_in text = line_fold (λ es bytes. with_element es (element_of bytes)) [] (lines_of text)

-- the numbers are a set of elements: each is from 1 on and below 2 ^ 32, and no two are equal
abbrev pub IsSet : List ℕ → Type 0
IsSet es = All (λ e. (0 < e) × (e < 2 ^ 32)) es × AreDistinct es

-- a set as text: the digits of each element as a line, in their order
abbrev pub set_text : List ℕ → List ℕ
set_text es = flat_map (λ e. line (eight_digits e)) es

-- what is written for a set where there is none
abbrev pub no_set_text : List ℕ
no_set_text = codes "no set"
