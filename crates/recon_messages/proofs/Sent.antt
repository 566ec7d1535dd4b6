-- What a frame that may be sent is decoded to may be sent, and the frame is its own.
use Rattle.std.proofs.Common.{◌≡◌, Result, Ok, Err}
use Rattle.std.specs.Prelude.{IfOk}
use Rattle.wire_rules.specs.Limits.{IsFrame}
use Rattle.wire_rules.specs.Reading.{message_of}
use Rattle.wire_rules.specs.declared.frame.Frame.{Frame}
use Rattle.wire_rules.specs.declared.message.Message.{Message}
use Rattle.wire_laws.specs.Readings.{IsFrameOf}
use Rattle.wire_laws.proofs.Said.{message_of-said}
use Rattle.recon_messages.specs.Says.{IsDecoded}
use Rattle.recon_messages.specs.declared.fault.DecodeFault.{DecodeFault}

pub decoded_sent : (f : Frame) (r : Result Message DecodeFault) → IsDecoded (message_of f) r → IfOk r (λ m. IsFrame f → IsFrameOf f m)
decoded_sent f (Ok m) said = λ sound. message_of-said f m sound said
decoded_sent f (Err fault) said = tt
