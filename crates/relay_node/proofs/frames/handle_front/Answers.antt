use Rattle.std.proofs.Common.{◌≡◌, Err}
use Rattle.std.proofs.lemmas.Result.{err_from_is_err_and}
use Rattle.wire_rules.specs.Lent.{lent_frame}
use Rattle.p2p_frame.specs.Feeding.{feed_front}
use Rattle.relay_node.proofs.Fronts.{front-ended, front-faulty, front-frame, front-idle, front-partial, front-stopped, front-taken, front-whole}
use Rattle.relay_node.proofs.frames.handle_front.Goals as goal

pub handle_frame-handled-requires-clause-frame : goal.handle_frame-handled-requires-clause-frame
handle_frame-handled-requires-clause-frame c =
    let whole = front-whole (feed_front c.args.feeder.now) (lent_frame c.in-Ok-Some.frame) (rw c.in-Ok-Some.field-0-is at c.in-Ok-Some.ensures.answer) in
    front-frame c.args.conversation.now c.args.feeder.now c.requires (lent_frame c.in-Ok-Some.frame) whole.0 whole.1

pub returns-in-Ok-None : goal.returns-in-Ok-None
returns-in-Ok-None c = front-idle c.args.conversation.now c.args.feeder.now c.requires (front-partial (feed_front c.args.feeder.now) (rw c.in-Ok-None.field-0-is at c.in-Ok-None.ensures.answer))

pub returns-in-Err : goal.returns-in-Err
returns-in-Err c = front-ended c.args.conversation.now c.args.feeder.now c.requires c.in-Err.fault (front-faulty (feed_front c.args.feeder.now) c.in-Err.fault c.in-Err.ensures.answer)

pub returns-in_err-handled : goal.returns-in_err-handled
returns-in_err-handled c =
    let whole = front-whole (feed_front c.args.feeder.now) (lent_frame c.in-Ok-Some.frame) (rw c.in-Ok-Some.field-0-is at c.in-Ok-Some.ensures.answer) in
    let p = err_from_is_err_and c.from_residual.result c.from_residual.ensures.1 in
    let same : c.from_residual.result ≡ Err c.in_err-handled.field-0.0 = cc in
    rw same (front-stopped c.args.conversation.now c.args.feeder.now c.requires (lent_frame c.in-Ok-Some.frame) whole.0 whole.1 c.handle_frame-handled.new.conversation c.skip.new.self c.in_err-handled.field-0.0
    (rw c.in_err-handled.was at c.handle_frame-handled.ensures) c.skip.ensures)

pub returns : goal.returns
returns c =
    let whole = front-whole (feed_front c.args.feeder.now) (lent_frame c.in-Ok-Some.frame) (rw c.in-Ok-Some.field-0-is at c.in-Ok-Some.ensures.answer) in
    front-taken c.args.conversation.now c.args.feeder.now c.requires (lent_frame c.in-Ok-Some.frame) whole.0 whole.1 c.handle_frame-handled.new.conversation c.skip.new.self c.in_ok-handled.ensures c.skip.ensures
