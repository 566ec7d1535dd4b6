use Rattle.std.proofs.Common.{Err, refl, ap, ◌∙◌}
use Rattle.std.proofs.lemmas.Result.{err_from_is_err_and}
use Rattle.invariant_laws.proofs.Sendable.{sent_ping, sent_pong}
use Rattle.outbox.specs.Waiting.{Waiting}
use Rattle.conversation.proofs.Ponging.{ping-taken}
use Rattle.conversation.proofs.Views.{parts_of, starved}
use Rattle.conversation.proofs.conversation.Conversation.on_ping.Goals as goal

pub push-requires : goal.push-requires
push-requires c = sent_pong c.args.number (sent_ping c.args.number c.ranges.number.fits)

pub returns-in_err-push : goal.returns-in_err-push
returns-in_err-push c =
    let p = err_from_is_err_and c.from_residual.result c.from_residual.ensures.1 in
    starved (parts_of c.self.inside.config c.self.inside.peer c.self.inside.stage c.self.inside.set c.self.inside.store c.self.inside.outbox) (record (parts_of c.self.inside.config c.self.inside.peer c.self.inside.stage c.self.inside.set c.self.inside.store c.self.inside.outbox) { outbox = c.push.new.self }) c.args.self.now _ _ c.self.view_is refl refl (ap (λ (w : Waiting). w.bytes) c.in_err-push.ensures.err) (p.1 ∙ ap Err p.2)

pub returns : goal.returns
returns c = ping-taken (parts_of c.self.inside.config c.self.inside.peer c.self.inside.stage c.self.inside.set c.self.inside.store c.self.inside.outbox) c.args.self.now _ c.push.new.self c.self.view_is c.self.invariant.1 c.in_ok-push.ensures.ok
