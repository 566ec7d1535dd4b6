use Rattle.std.proofs.Common.{sym, ◌∙◌, ap, [], ◌∷◌, refl, Err}
use Rattle.std.proofs.lemmas.Result.{err_from_is_err_and}
use Rattle.responder.specs.Refusals.{end_of}
use Rattle.conversation.proofs.Accepting.{reqrecon_row, plain_refused, other_refused, fault_stopped, response_sendable, response_behind, response_taken}
use Rattle.outbox.specs.Waiting.{Waiting}
use Rattle.conversation.specs.declared.stage.Stage.TheVariants as stage
use Rattle.conversation.proofs.Views.{parts_of, starved}
use Rattle.conversation.proofs.conversation.Conversation.on_reqrecon.Goals as goal

pub returns-then-is_plain : goal.returns-then-is_plain
returns-then-is_plain c = plain_refused (reqrecon_row c.args.size c.args.q) c.args.self.now c.misplaced-misplaced.result (sym c.is_plain.ensures ∙ c.if-is_plain.true) c.misplaced-misplaced.ensures

pub returns-in_default : goal.returns-in_default
returns-in_default c = other_refused (reqrecon_row c.args.size c.args.q) (parts_of c.self.inside.config c.self.inside.peer c.self.inside.stage c.self.inside.set c.self.inside.store c.self.inside.outbox) c.args.self.now c.self.view_is c.self.invariant.0 c.misplaced-misplaced.result c.requires.relaying c.in_default.not-Accepter c.misplaced-misplaced.ensures

pub returns-in_err-sketch : goal.returns-in_err-sketch
returns-in_err-sketch c =
    let p = err_from_is_err_and c.from_residual.result c.from_residual.ensures.1 in
    rw p.1 (fault_stopped (reqrecon_row c.args.size c.args.q) (parts_of c.self.inside.config c.self.inside.peer c.self.inside.stage c.self.inside.set c.self.inside.store c.self.inside.outbox) c.args.self.now c.self.view_is c.self.invariant.0 c.in-Accepter.machine c.in-Accepter.is (sym c.is_plain.ensures ∙ c.if-is_plain.false) p.0 (end_of c.in_err-sketch.field-0.0) c.on_reqrecon.new.self c.on_reqrecon.new.set p.2 c.in_err-sketch.ensures.refused c.in_err-sketch.ensures.unchanged c.in_err-sketch.ensures.kept)

pub push-requires : goal.push-requires
push-requires c = (response_sendable (reqrecon_row c.args.size c.args.q) (parts_of c.self.inside.config c.self.inside.peer c.self.inside.stage c.self.inside.set c.self.inside.store c.self.inside.outbox) c.args.self.now c.self.view_is c.self.invariant.0 c.in-Accepter.machine c.in-Accepter.is (sym c.is_plain.ensures ∙ c.if-is_plain.false) (record { machine = c.on_reqrecon.new.self; out = c.in_ok-sketch.sketch ∷ [] }) c.in_ok-sketch.ensures.answered c.requires.node c.requires.message c.requires.relaying).0

pub invariant_of-self-in_err-push : goal.invariant_of-self-in_err-push
invariant_of-self-in_err-push c = (response_behind (reqrecon_row c.args.size c.args.q) (parts_of c.self.inside.config c.self.inside.peer c.self.inside.stage c.self.inside.set c.self.inside.store c.self.inside.outbox) c.args.self.now c.self.view_is c.self.invariant.0 c.in-Accepter.machine c.in-Accepter.is (sym c.is_plain.ensures ∙ c.if-is_plain.false) (record { machine = c.on_reqrecon.new.self; out = c.in_ok-sketch.sketch ∷ [] }) c.in_ok-sketch.ensures.answered c.requires.message c.requires.relaying, ap (λ (w : Waiting). w.magic) c.in_err-push.ensures.err ∙ c.self.invariant.1)

pub returns-in_err-push : goal.returns-in_err-push
returns-in_err-push c =
    let p = err_from_is_err_and c.from_residual-in_err-push.result c.from_residual-in_err-push.ensures.1 in
    starved (parts_of c.self.inside.config c.self.inside.peer c.self.inside.stage c.self.inside.set c.self.inside.store c.self.inside.outbox) (record (parts_of c.self.inside.config c.self.inside.peer c.self.inside.stage c.self.inside.set c.self.inside.store c.self.inside.outbox) { stage = stage.Accepter c.on_reqrecon.new.self; set = c.on_reqrecon.new.set; outbox = c.push.new.self }) c.args.self.now _ _ c.self.view_is refl refl (ap (λ (w : Waiting). w.bytes) c.in_err-push.ensures.err) (p.1 ∙ ap Err p.2)

pub invariant_of-self-2 : goal.invariant_of-self-2
invariant_of-self-2 c = (response_behind (reqrecon_row c.args.size c.args.q) (parts_of c.self.inside.config c.self.inside.peer c.self.inside.stage c.self.inside.set c.self.inside.store c.self.inside.outbox) c.args.self.now c.self.view_is c.self.invariant.0 c.in-Accepter.machine c.in-Accepter.is (sym c.is_plain.ensures ∙ c.if-is_plain.false) (record { machine = c.on_reqrecon.new.self; out = c.in_ok-sketch.sketch ∷ [] }) c.in_ok-sketch.ensures.answered c.requires.message c.requires.relaying, ap (λ (w : Waiting). w.magic) c.in_ok-push.ensures.ok ∙ c.self.invariant.1)

pub returns : goal.returns
returns c =
    response_taken (reqrecon_row c.args.size c.args.q) (parts_of c.self.inside.config c.self.inside.peer c.self.inside.stage c.self.inside.set c.self.inside.store c.self.inside.outbox) c.args.self.now c.self.view_is c.self.invariant.0 c.in-Accepter.machine c.in-Accepter.is (sym c.is_plain.ensures ∙ c.if-is_plain.false) (record { machine = c.on_reqrecon.new.self; out = c.in_ok-sketch.sketch ∷ [] }) c.in_ok-sketch.ensures.answered c.on_reqrecon.new.set c.push.new.self c.self.invariant.1 c.in_ok-sketch.ensures.emptied c.in_ok-push.ensures.ok
