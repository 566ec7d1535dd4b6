-- What bytes and lines are read as: sums, or the first fault.
use Rattle.std.specs.Prelude.{◌≡◌, ◌⊎◌, ℕ, ◌%◌, ◌==◌, nat_lt, if◌then◌else◌, List, length, Result, Ok, Err}
use Rattle.hex.specs.Hex.{decode_of}
use Rattle.hex.specs.declared.error.FromHexError.{FromHexError}
use Rattle.hex.specs.declared.error.FromHexError.TheVariants as hex_error
use Rattle.sketch_rules.specs.Sketches.{sums_in}
use Rattle.sketch_rules.specs.declared.limits.TheConstants.{MAX_SKETCH_BYTES}
use Rattle.sketch_bytes.specs.declared.fault.BytesFault.{BytesFault}
use Rattle.sketch_bytes.specs.declared.fault.BytesFault.TheVariants as bytes_fault
use Rattle.sketch_bytes.specs.declared.fault.LineFault.{LineFault}
use Rattle.sketch_bytes.specs.declared.fault.LineFault.TheVariants as line_fault

-- the sums that bytes spell, 4 bytes each: at least one, and at most as many as a sketch may have
abbrev pub sums_of_bytes : List ℕ → Result (List ℕ) BytesFault
sums_of_bytes bytes =
    if length bytes == 0 then Err bytes_fault.EmptySketch
    else if length bytes % 4 == 0 then (if nat_lt MAX_SKETCH_BYTES (length bytes) then Err (bytes_fault.TooWide (length bytes)) else Ok (sums_in bytes))
    else Err (bytes_fault.RaggedLength (length bytes))

-- the fault of the bytes that a line spells
abbrev pub line_result : Result (List ℕ) BytesFault → Result (List ℕ) LineFault
line_result (Ok sums) = Ok sums
line_result (Err fault) = Err (line_fault.Bytes fault)

-- the fault of digits: an odd number of them, or the first byte that is no digit
abbrev pub digits_fault : FromHexError → LineFault
digits_fault (hex_error.InvalidHexCharacter c offset) = line_fault.BadDigit offset
digits_fault hex_error.OutOfMemory = line_fault.Bytes bytes_fault.OutOfMemory
digits_fault _ = line_fault.OddDigits

-- the sums of the bytes that digits spell
abbrev pub sums_of_digits : Result (List ℕ) FromHexError → Result (List ℕ) LineFault
sums_of_digits (Ok bytes) = line_result (sums_of_bytes bytes)
sums_of_digits (Err refused) = Err (digits_fault refused)

-- the sums of the bytes that a line spells in digits of either case
abbrev pub sums_of_line : List ℕ → Result (List ℕ) LineFault
sums_of_line line = sums_of_digits (decode_of line)

-- a call answers what was read, where view shows the sums of its value. It may be in want of memory instead
abbrev pub IsOutcome : {S E : Type 0} → (S → List ℕ) → E → Result (List ℕ) E → Result S E → Type 0
IsOutcome view want read (Ok s) = read ≡ Ok (view s)
IsOutcome view want read (Err fault) = (fault ≡ want) ⊎ (read ≡ Err fault)
