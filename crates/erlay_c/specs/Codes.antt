-- The codes that the calls answer.
use Rattle.std.specs.Prelude.{ℕ, Result, Ok, Err}
use Rattle.erlay_c.specs.declared.refusal.Refusal.{Refusal}
use Rattle.erlay_c.specs.declared.refusal.Refusal.TheVariants as refusal

-- the code of a refusal
abbrev pub number_of : Refusal → ℕ
number_of refusal.CapacityOutOfRange = 1
number_of refusal.SketchSize = 2
number_of refusal.SizesDiffer = 3
number_of refusal.ZeroElement = 4
number_of refusal.RepeatedElement = 5
number_of refusal.BufferTooShort = 6
number_of refusal.NoSet = 7
number_of refusal.OutOfMemory = 8

-- the code of a call: 0 where it did its work
abbrev pub code_of : {A : Type 0} → Result A Refusal → ℕ
code_of (Ok _) = 0
code_of (Err refused) = number_of refused
