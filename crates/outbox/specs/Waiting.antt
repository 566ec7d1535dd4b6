-- Bytes that wait to be sent.
use Rattle.std.specs.Prelude.{ℕ, List, ◌++◌}
use Rattle.wire_rules.specs.Layout.{wire_bytes}
use Rattle.wire_rules.specs.declared.message.Message.{Message}

-- the network's magic, and the bytes that wait, the first one first
pub record Waiting : Type 0 where
  pub magic : List ℕ
  pub bytes : List ℕ

-- the frames of messages go to the end
abbrev pub with_messages : Waiting → List Message → Waiting
with_messages w ms = record w { bytes = w.bytes ++ wire_bytes w.magic ms }
