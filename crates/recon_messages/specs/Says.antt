-- What a reader of a payload answers.
use Rattle.std.specs.Prelude.{◌≡◌, Result, Ok, Err}
use Rattle.wire_rules.specs.Reading.{Cursor, FieldFault, FieldReading, fault_at}
use Rattle.wire_rules.specs.declared.faults.PayloadFault.{PayloadFault}
use Rattle.wire_rules.specs.declared.message.Message.{Message}
use Rattle.recon_messages.specs.declared.fault.DecodeFault.{DecodeFault}
use Rattle.recon_messages.specs.declared.fault.DecodeFault.TheVariants as decode
use Rattle.recon_messages.specs.declared.fault.FieldStop.{FieldStop}
use Rattle.recon_messages.specs.declared.fault.FieldStop.TheVariants as stop

-- what a field says, the value seen by `view`, and the bytes that are left, or its fault; memory may run out at any field
abbrev pub IsField : {A B : Type 0} → (B → A) → FieldReading A → Result B FieldStop → Cursor → Type 0
IsField view said (Ok x) after = said ≡ Ok (view x, after)
IsField view said (Err (stop.Fault at kind)) after = said ≡ fault_at at kind
IsField view said (Err stop.OutOfMemory) after = Unit {0}

-- what a payload says, or its first fault; memory may run out at any payload
abbrev pub IsPayload : Result Message FieldFault → Result Message FieldStop → Type 0
IsPayload said (Ok m) = said ≡ Ok m
IsPayload said (Err (stop.Fault at kind)) = said ≡ fault_at at kind
IsPayload said (Err stop.OutOfMemory) = Unit {0}

-- what a frame says, or the first fault of its payload; memory may run out at any frame
abbrev pub IsDecoded : Result Message PayloadFault → Result Message DecodeFault → Type 0
IsDecoded said (Ok m) = said ≡ Ok m
IsDecoded said (Err (decode.Payload fault)) = said ≡ Err fault
IsDecoded said (Err decode.OutOfMemory) = Unit {0}
