-- Frames whose payload is lent.
use Rattle.wire_rules.specs.declared.frame.Frame.{Frame}
use Rattle.wire_rules.specs.declared.frame.FrameRef.{FrameRef}

-- the same frame with a payload of its own
abbrev pub lent_frame : FrameRef → Frame
lent_frame f = record { command = f.command; payload = f.payload.now }
