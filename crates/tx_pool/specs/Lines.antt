-- What a reader of one line answers.
use Rattle.std.specs.Prelude.{◌≡◌, ℕ, Result, Ok, Err}
use Rattle.base_types.specs.declared.text.Kind.{Kind}
use Rattle.line_text.specs.declared.stop.ReadStop.{ReadStop}
use Rattle.line_text.specs.declared.stop.ReadStop.TheVariants as read_stop
use Rattle.tx_pool.specs.declared.line.LineStop.{LineStop}
use Rattle.tx_pool.specs.declared.line.LineStop.TheVariants as stop

-- the answer is what the definition gives, the value seen by `view`; memory may run out at any line
abbrev pub IsLineOutcome : {A B : Type 0} → (A → B) → Result A LineStop → Result B Kind → Type 0
IsLineOutcome view (Ok a) given = given ≡ Ok (view a)
IsLineOutcome view (Err (stop.Faulty k)) given = given ≡ Err k
IsLineOutcome view (Err stop.OutOfMemory) given = Unit {0}

-- the same of a text whose line with this number it is
abbrev pub stop_at : ℕ → LineStop → ReadStop
stop_at number (stop.Faulty k) = read_stop.Fault (record { place = number; kind = k })
stop_at number stop.OutOfMemory = read_stop.OutOfMemory
