use Rattle.std.proofs.Common.{◌∙◌}
use Rattle.line_text.specs.Views.{line_of}
use Rattle.stream_text.proofs.Packs.{packed_all, packed_fault, packed_more, packed_none, shown_sent}
use Rattle.stream_text.proofs.packing.packed_frames.Goals as goal

pub loop-line-init : goal.loop-line-init
loop-line-init c = packed_none c.args.text.now c.new-frames.result.items c.into_iter-line-iterator.result c.new-frames.ensures.items (c.into_iter-line-iterator.ensures.into_iter_gives ∙ c.of-line-items.ensures)

pub returns-in-Err-Form : goal.returns-in-Err-Form
returns-in-Err-Form c =
    packed_fault c.args.text.now c.loop-line.frames.items c.loop-line.line-iterator c.next.new.self (line_of c.in-Some.line) c.loop-line.invariant c.in-Some.ensures.steps (rw c.in-Err-Form.field-0-is at c.in-Err-Form.ensures)

pub put_frame-requires : goal.put_frame-requires
put_frame-requires c = shown_sent c.in-Some.line.bytes.now c.in-Ok.message c.in-Ok.ensures

pub loop-line-preserved : goal.loop-line-preserved
loop-line-preserved c =
    packed_more c.args.text.now c.loop-line.frames.items c.loop-line.line-iterator c.next.new.self (line_of c.in-Some.line) c.loop-line.invariant c.in-Some.ensures.steps c.in-Ok.message c.put_frame.new.frames.items c.in-Ok.ensures c.in-Ok-put_frame.ensures

pub returns : goal.returns
returns c = packed_all c.args.text.now c.loop-line.frames.items c.loop-line.line-iterator c.loop-line.invariant c.in-None.ensures.steps.0
