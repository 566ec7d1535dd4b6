-- Sketches as lines of text: what `merge` and `decode` read.
use Rattle.std.specs.Prelude.{ℕ, ◌==◌, if◌then◌else◌, List, [], ◌∷◌, length, Result, Ok, Err}
use Rattle.base_types.specs.declared.text.Kind.{Kind}
use Rattle.base_types.specs.declared.text.Kind.TheVariants as kind
use Rattle.base_types.specs.declared.text.TextFault.{TextFault}
use Rattle.sketch_rules.specs.Sketches.{sketch_sum}
use Rattle.sketch_bytes.specs.Reading.{sums_of_line}
use Rattle.sketch_bytes.specs.declared.fault.BytesFault.TheVariants as bytes_fault
use Rattle.sketch_bytes.specs.declared.fault.LineFault.{LineFault}
use Rattle.sketch_bytes.specs.declared.fault.LineFault.TheVariants as line_fault
use Rattle.line_rules.specs.Lines.{NumberedLine, lines_of}
use Rattle.line_rules.specs.Reading.{after_line}

-- what is wrong with a line that is no sketch. A line isn't empty, so it spells no sketch of no bytes
abbrev pub kind_of : LineFault → Kind
kind_of line_fault.OddDigits = kind.OddDigits
kind_of (line_fault.BadDigit offset) = kind.BadDigit
kind_of (line_fault.Bytes (bytes_fault.RaggedLength n)) = kind.RaggedLength n
kind_of (line_fault.Bytes (bytes_fault.TooWide n)) = kind.TooWide n
kind_of (line_fault.Bytes bytes_fault.EmptySketch) = kind.LineCount
kind_of (line_fault.Bytes bytes_fault.OutOfMemory) = kind.LineCount

abbrev pub with_kind : Result (List ℕ) LineFault → Result (List ℕ) Kind
with_kind (Ok sums) = Ok sums
with_kind (Err fault) = Err (kind_of fault)

-- the sums of a sketch line
abbrev pub sketch_of_line : List ℕ → Result (List ℕ) Kind
sketch_of_line bytes = with_kind (sums_of_line bytes)

-- the sum of two sketches of one capacity; where they have two, the second line is named
abbrev pub sum_of_two : NumberedLine → List ℕ → List ℕ → Result (List ℕ) TextFault
sum_of_two second a b = if length a == length b then Ok (sketch_sum a b) else Err (record { place = second.number; kind = kind.LengthsDiffer })

-- the sum of the sketches of two lines; where there are more or fewer lines, their count is named
abbrev pub sum_of_lines : List NumberedLine → Result (List ℕ) TextFault
sum_of_lines (first ∷ second ∷ []) = after_line first (sketch_of_line first.bytes) (λ a. after_line second (sketch_of_line second.bytes) (λ b. sum_of_two second a b))
sum_of_lines ls = Err (record { place = length ls; kind = kind.LineCount })

-- the sum of the two sketches that the text lists
abbrev pub sum_in : List ℕ → Result (List ℕ) TextFault
sum_in text = sum_of_lines (lines_of text)

-- the sketch of the only line; where there are more or fewer lines, their count is named
abbrev pub sketch_of_lines : List NumberedLine → Result (List ℕ) TextFault
sketch_of_lines (only ∷ []) = after_line only (sketch_of_line only.bytes) (λ sums. Ok sums)
sketch_of_lines ls = Err (record { place = length ls; kind = kind.LineCount })

-- the sketch that the text lists
abbrev pub sketch_in : List ℕ → Result (List ℕ) TextFault
sketch_in text = sketch_of_lines (lines_of text)
