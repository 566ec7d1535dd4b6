-- What the calls of a machine answer, by the definitions of its steps.
use Rattle.std.specs.Prelude.{◌≡◌, Some, None}
use Rattle.std.specs.declared.option.Option.{Option}
use Rattle.wire_rules.specs.declared.message.Message.{Message}
use Rattle.node_rules.specs.Opener.{Start}
use Rattle.node_rules.specs.State.{Initiator}

-- a start of a round gives a machine and a message, or there is none, and the machine stays
abbrev pub IsStart : Option Start → Initiator → Initiator → Option Message → Type 0
IsStart start old new (Some message) = start ≡ Some (record { initiator = new; message = message })
IsStart start old new None = (start ≡ None) × (new ≡ old)
