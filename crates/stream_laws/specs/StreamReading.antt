-- What reading a stream from its front gives.
use Rattle.std.specs.Prelude.{◌≡◌, ℕ, List, Some, None}
use Rattle.wire_rules.specs.Stream.{StreamFault, StreamRead}
use Rattle.wire_rules.specs.declared.message.Message.{Message}

-- these messages, this rest, and no fault
pub record IsReadAs (ms : List Message) (rest : List ℕ) (r : StreamRead) : Type 0 where
  pub messages : r.messages ≡ ms
  pub left : r.rest ≡ rest
  pub unstopped : r.stop ≡ None

-- these messages, and this fault
pub record IsStoppedAs (ms : List Message) (fault : StreamFault) (r : StreamRead) : Type 0 where
  pub messages : r.messages ≡ ms
  pub stopped : r.stop ≡ Some fault
