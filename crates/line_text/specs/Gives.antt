-- What a reader of text answers.
use Rattle.std.specs.Prelude.{◌≡◌, Result, Ok, Err}
use Rattle.base_types.specs.declared.text.TextFault.{TextFault}
use Rattle.line_text.specs.declared.stop.ReadStop.{ReadStop}
use Rattle.line_text.specs.declared.stop.ReadStop.TheVariants as stop

-- the answer is what the definition gives, the value seen by `view`; memory may run out at any text
abbrev pub IsOutcome : {A B : Type 0} → (A → B) → Result A ReadStop → Result B TextFault → Type 0
IsOutcome view (Ok a) given = given ≡ Ok (view a)
IsOutcome view (Err (stop.Fault f)) given = given ≡ Err f
IsOutcome view (Err stop.OutOfMemory) given = Unit {0}
