-- What is read of words.
use Rattle.std.specs.Prelude.{◌≡◌, ◌&&◌, Bool, IsTrue, Option, Some, None, Result, Ok, Err}
use Rattle.hex.specs.declared.error.FromHexError.{FromHexError}
use Rattle.hex.specs.declared.error.FromHexError.TheVariants as hex
use Rattle.id_rules.specs.Bytes.{are_bytes, are_bytes_of}
use Rattle.wire_rules.specs.Limits.{is_in_range}
use Rattle.wire_rules.specs.declared.message.Message.{Message}
use Rattle.wire_rules.specs.declared.message.Message.TheVariants as message
use Rattle.shown_reading.specs.declared.fault.ShownFault.{ShownFault}
use Rattle.shown_reading.specs.declared.fault.ShownFault.TheVariants as fault

-- the only value within its range that words may stand for, where `stands` says which these are, or that there is none;
-- memory may run out at any words
abbrev pub IsOnly : {A : Type 0} → (A → Bool) → (A → Type 0) → Result A ShownFault → Type 0
IsOnly fits stands (Ok x) = IsTrue (fits x) × ((y : _) → IsTrue (fits y) → stands y → y ≡ x)
IsOnly fits stands (Err fault.Form) = (y : _) → IsTrue (fits y) → stands y → ⊥
IsOnly fits stands (Err fault.OutOfMemory) = Unit {0}

-- the message that a line shows, or that it shows none; memory may run out at any line
abbrev pub IsShownMessage : Option Message → Result Message ShownFault → Type 0
IsShownMessage shown (Ok m) = shown ≡ Some m
IsShownMessage shown (Err fault.Form) = shown ≡ None
IsShownMessage shown (Err fault.OutOfMemory) = Unit {0}

-- why digits were not read
abbrev pub fault_of : FromHexError → ShownFault
fault_of hex.OutOfMemory = fault.OutOfMemory
fault_of other = fault.Form

-- what the types of a message's fields say: their ranges, and that a command has 12 bytes
abbrev pub is_typed : Message → Bool
is_typed (message.Other command payload) = are_bytes_of 12 command && are_bytes payload
is_typed m = is_in_range m
