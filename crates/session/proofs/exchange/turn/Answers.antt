use Rattle.std.proofs.Common.{◌∙◌, ℕ, take, sym, subst}
use Rattle.std.proofs.lemmas.Result.{err_from_is_err_and}
use Rattle.node_rules.specs.Stages.{is_idle}
use Rattle.session.specs.Standing.{IsBeforePiece, IsReceipt, IsTurn}
use Rattle.session.proofs.Bounds.{finished-parts, no-fault, unfinished-busy}
use Rattle.session.proofs.Endings.{over-done, over-fault}
use Rattle.session.proofs.exchange.turn.Goals as goal

pub returns-in_default-clause-turn : goal.returns-in_default-clause-turn
unfolding IsTurn
returns-in_default-clause-turn g c = λ rounds start before h.
    let p = c.args.progress.now in
    over-fault p.opens rounds start before (g.W.Wire.link c.send_all.new.wire) (g.W.Wire.has_ended c.send_all.new.wire) c.send_all.new.node p.left p.received
    (c.send_all.ensures.standing p.opens rounds start before p.left p.received h) c.requires.most

pub returns-then-is_finished-clause-turn : goal.returns-then-is_finished-clause-turn
unfolding IsTurn
returns-then-is_finished-clause-turn g c = λ rounds start before h.
    let p = c.args.progress.now in
    let parts = finished-parts p.opens p.left (is_idle c.send_all.new.node.state.machine.phase) (sym c.is_finished.ensures ∙ c.if-is_finished.true) in
    over-done p.opens rounds start before (g.W.Wire.link c.send_all.new.wire) (g.W.Wire.has_ended c.send_all.new.wire) c.send_all.new.node p.left p.received
    (c.send_all.ensures.standing p.opens rounds start before p.left p.received h) c.requires.most c.in-Ok.ensures.sent parts.0 parts.1 parts.2

pub returns-in_err-count-clause-turn : goal.returns-in_err-count-clause-turn
unfolding IsTurn IsReceipt
returns-in_err-count-clause-turn g c = λ rounds start before h.
    let p = c.args.progress.now in
    let q = err_from_is_err_and c.from_residual.result c.from_residual.ensures.1 in
    rw (q.1, q.2)
    (c.in_err-count.ensures.receipt rounds start before (c.send_all.ensures.standing p.opens rounds start before p.left p.received h) c.in-Ok.ensures.sent
    (unfinished-busy p.opens p.left (is_idle c.send_all.new.node.state.machine.phase) (sym c.is_finished.ensures ∙ c.if-is_finished.false)))

pub returns-clause-turn : goal.returns-clause-turn
unfolding IsReceipt
returns-clause-turn g c = λ rounds start before h.
    let p = c.args.progress.now in
    let told = g.W.Wire.link c.receive.new.wire in
    let ended = g.W.Wire.has_ended c.receive.new.wire in
    let received = c.receive.new.progress.received in
    let piece = c.in_ok-count.ensures.receipt rounds start before (c.send_all.ensures.standing p.opens rounds start before p.left p.received h) c.in-Ok.ensures.sent
    (unfinished-busy p.opens p.left (is_idle c.send_all.new.node.state.machine.phase) (sym c.is_finished.ensures ∙ c.if-is_finished.false)) in
    c.take.ensures.turn p.opens rounds start before told ended received
    (subst (λ (left : ℕ). IsBeforePiece p.opens rounds start before told ended c.send_all.new.node left received (take c.in_ok-count.count c.receive.new.buffer)) (sym c.in_ok-count.ensures.same.1) piece)

pub returns-clause-fault : goal.returns-clause-fault
returns-clause-fault g c =
    no-fault c.take.result (g.W.Wire.faults c.args.wire.now) (g.W.Wire.faults c.receive.new.wire) c.take.ensures.fault (c.in_ok-count.ensures.no_fault ∙ c.in-Ok.ensures.cause.success)
