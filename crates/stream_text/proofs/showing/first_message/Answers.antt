use Rattle.std.proofs.Common.{◌+◌, length, refl, sym}
use Rattle.wire_rules.specs.Lent.{lent_frame}
use Rattle.stream_text.proofs.Streams.{first_cut_short, first_frame_fault, first_message, first_undecoded}
use Rattle.stream_text.proofs.showing.first_message.Goals as goal

pub returns-in-Ok : goal.returns-in-Ok
returns-in-Ok c =
    first_message c.args.offset c.args.bytes.now (lent_frame c.in-Ok-Some.frame) c.in-Ok.message (24 + length c.in-Ok-Some.frame.payload.now)
    (sym (rw c.in-Ok-Some.field-0-is at c.in-Ok-Some.ensures)) c.in-Ok.ensures.said refl

pub returns-in-Ok-None : goal.returns-in-Ok-None
returns-in-Ok-None c = first_cut_short c.args.offset c.args.bytes.now c.requires (sym (rw c.in-Ok-None.field-0-is at c.in-Ok-None.ensures))

pub returns-in-Err : goal.returns-in-Err
returns-in-Err c = first_frame_fault c.args.offset c.args.bytes.now c.in-Err.fault (sym c.in-Err.ensures)

pub returns-in-Err-decode_ref : goal.returns-in-Err-decode_ref
returns-in-Err-decode_ref c =
    rw c.payload_stop.ensures
    (first_undecoded c.args.offset c.args.bytes.now (lent_frame c.in-Ok-Some.frame) c.in-Err-decode_ref.fault (sym (rw c.in-Ok-Some.field-0-is at c.in-Ok-Some.ensures)) c.in-Err-decode_ref.ensures.said)
