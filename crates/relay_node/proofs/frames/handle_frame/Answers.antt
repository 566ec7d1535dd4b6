use Rattle.std.proofs.Common.{sym, ◌∙◌}
use Rattle.wire_rules.specs.Lent.{lent_frame}
use Rattle.wire_rules.specs.declared.message.Message.TheVariants as message
use Rattle.relay_node.proofs.Fronts.{frame-faulty, frame-other, frame-starved, frame-taken, message_of-tx}
use Rattle.relay_node.proofs.frames.handle_frame.Goals as goal

pub returns-in-None : goal.returns-in-None
returns-in-None c = frame-other (lent_frame c.args.frame.now) c.args.conversation.now (sym c.in-None.ensures) c.requires.unended

pub returns-in-Some-Tx : goal.returns-in-Some-Tx
returns-in-Some-Tx c =
    let f = lent_frame c.args.frame.now in
    frame-taken f (message.Tx f.payload) c.args.conversation.now c.take_tx.new.self c.take_tx.result
    (message_of-tx f (sym (rw c.in-Some-Tx.field-0-is at c.in-Some-Tx.ensures)) (sym c.is_tx.ensures.told ∙ c.if-is_tx.true)) c.take_tx.ensures

pub returns-in-Ok : goal.returns-in-Ok
returns-in-Ok c = frame-taken (lent_frame c.args.frame.now) c.in-Ok.message c.args.conversation.now c.take.new.self c.take.result c.in-Ok.ensures.said c.take.ensures

pub returns-in-Err-Payload : goal.returns-in-Err-Payload
returns-in-Err-Payload c = frame-faulty (lent_frame c.args.frame.now) c.in-Err-Payload.fault c.args.conversation.now (rw c.in-Err-Payload.field-0-is at c.in-Err-Payload.ensures.said)

pub returns-in-Err-OutOfMemory : goal.returns-in-Err-OutOfMemory
returns-in-Err-OutOfMemory c = frame-starved (lent_frame c.args.frame.now) c.args.conversation.now
