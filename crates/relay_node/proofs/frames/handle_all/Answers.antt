use Rattle.std.proofs.Common.{◌≡◌, Err}
use Rattle.std.proofs.lemmas.Result.{err_from_is_err_and}
use Rattle.relay_node.proofs.Loops.{handled-all, handled-more, handled-none, handled-shorter, handled-stopped}
use Rattle.relay_node.proofs.frames.handle_all.Goals as goal

pub loop-init : goal.loop-init
loop-init c = handled-none c.args.conversation.now c.args.feeder.now c.requires

pub returns-in_err-handle_front : goal.returns-in_err-handle_front
returns-in_err-handle_front c =
    let p = err_from_is_err_and c.from_residual.result c.from_residual.ensures.1 in
    let same : c.from_residual.result ≡ Err c.in_err-handle_front.field-0.0 = cc in
    rw same (handled-stopped c.args.conversation.now c.args.feeder.now c.loop.conversation c.loop.feeder c.loop.invariant c.handle_front.new.conversation c.handle_front.new.feeder c.in_err-handle_front.field-0.0 c.in_err-handle_front.ensures)

pub loop-smaller : goal.loop-smaller
loop-smaller c =
    handled-shorter c.args.conversation.now c.args.feeder.now c.loop.conversation c.loop.feeder c.loop.invariant c.handle_front.new.conversation c.handle_front.new.feeder (rw c.if-branch.true at c.in_ok-handle_front.ensures)

pub loop-preserved : goal.loop-preserved
loop-preserved c =
    handled-more c.args.conversation.now c.args.feeder.now c.loop.conversation c.loop.feeder c.loop.invariant c.handle_front.new.conversation c.handle_front.new.feeder (rw c.if-branch.true at c.in_ok-handle_front.ensures)

pub returns : goal.returns
returns c =
    handled-all c.args.conversation.now c.args.feeder.now c.loop.conversation c.loop.feeder c.loop.invariant c.handle_front.new.conversation c.handle_front.new.feeder (rw c.if-branch.false at c.in_ok-handle_front.ensures)
