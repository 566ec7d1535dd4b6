-- What is answered for sketches that come as bytes.
use Rattle.std.specs.Prelude.{◌≡◌, ◌⊎◌, ℕ, ◌==◌, if◌then◌else◌, List, length, Option, Result, Ok, Err}
use Rattle.sketch_rules.specs.Answers.{answer_of}
use Rattle.sketch_rules.specs.Sketches.{sketch_sum}
use Rattle.sketch_core.specs.Answered.{decoded_numbers}
use Rattle.sketch_core.specs.declared.decoded.Decoded.{Decoded}
use Rattle.sketch_bytes.specs.Reading.{sums_of_bytes}
use Rattle.sketch_bytes.specs.declared.fault.BytesFault.{BytesFault}
use Rattle.set_difference.specs.declared.fault.DifferenceFault.{DifferenceFault}
use Rattle.set_difference.specs.declared.fault.DifferenceFault.TheVariants as difference_fault

-- the sum of two sketches of one capacity, or the first fault
abbrev pub sum_of_both : Result (List ℕ) BytesFault → Result (List ℕ) BytesFault → Result (List ℕ) DifferenceFault
sum_of_both (Err fault) theirs = Err (difference_fault.Ours fault)
sum_of_both (Ok ms) (Err fault) = Err (difference_fault.Theirs fault)
sum_of_both (Ok ms) (Ok ns) = if length ms == length ns then Ok (sketch_sum ms ns) else Err difference_fault.LengthsDiffer

-- the sum of the sketches that the bytes of both spell
abbrev pub read_sum : List ℕ → List ℕ → Result (List ℕ) DifferenceFault
read_sum ours theirs = sum_of_both (sums_of_bytes ours) (sums_of_bytes theirs)

-- the set that has the sums that were read, or why there are no sums
abbrev pub decoded : {E : Type 0} → Result (List ℕ) E → Result (Option (List ℕ)) E
decoded (Ok sums) = Ok (answer_of sums)
decoded (Err fault) = Err fault

-- a call answers it. It may be in want of memory instead
abbrev pub IsAnswered : {F E : Type 0} → (F → ℕ) → E → Result (Option (List ℕ)) E → Result (Decoded F) E → Type 0
IsAnswered bits_of want answer (Ok found) = answer ≡ Ok (decoded_numbers bits_of found)
IsAnswered bits_of want answer (Err fault) = (fault ≡ want) ⊎ (answer ≡ Err fault)
