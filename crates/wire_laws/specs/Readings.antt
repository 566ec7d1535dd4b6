-- What reading a frame gives.
use Rattle.std.specs.Prelude.{◌≡◌}
use Rattle.wire_rules.specs.Layout.{frame_of}
use Rattle.wire_rules.specs.Limits.{IsMessage}
use Rattle.wire_rules.specs.declared.frame.Frame.{Frame}
use Rattle.wire_rules.specs.declared.message.Message.{Message}

-- a message that may be sent, and its frame
pub record IsFrameOf (f : Frame) (m : Message) : Type 0 where
  pub sent : IsMessage m
  pub frame : f ≡ frame_of m
