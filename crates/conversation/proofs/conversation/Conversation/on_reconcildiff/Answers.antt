use Rattle.std.proofs.Common.{sym, ◌∙◌, ap, refl, Err}
use Rattle.std.proofs.lemmas.Result.{err_from_is_err_and}
use Rattle.responder.specs.Refusals.{end_of}
use Rattle.conversation.proofs.Accepting.{diff_row, plain_refused, other_refused, fault_stopped, response_sendable, response_behind, response_taken}
use Rattle.outbox.specs.Waiting.{Waiting, with_messages}
use Rattle.conversation.specs.declared.stage.Stage.TheVariants as stage
use Rattle.conversation.proofs.Views.{parts_of, starved}
use Rattle.conversation.proofs.conversation.Conversation.on_reconcildiff.Goals as goal

pub returns-then-is_plain : goal.returns-then-is_plain
returns-then-is_plain c = plain_refused (diff_row c.args.success c.args.asks.now) c.args.self.now c.misplaced-misplaced.result (sym c.is_plain.ensures ∙ c.if-is_plain.true) c.misplaced-misplaced.ensures

pub returns-in_default : goal.returns-in_default
returns-in_default c = other_refused (diff_row c.args.success c.args.asks.now) (parts_of c.self.inside.config c.self.inside.peer c.self.inside.stage c.self.inside.set c.self.inside.store c.self.inside.outbox) c.args.self.now c.self.view_is c.self.invariant.0 c.misplaced-misplaced.result c.requires.relaying c.in_default.not-Accepter c.misplaced-misplaced.ensures

pub returns-in_err-outs : goal.returns-in_err-outs
returns-in_err-outs c =
    let p = err_from_is_err_and c.from_residual.result c.from_residual.ensures.1 in
    rw p.1 (fault_stopped (diff_row c.args.success c.args.asks.now) (parts_of c.self.inside.config c.self.inside.peer c.self.inside.stage c.self.inside.set c.self.inside.store c.self.inside.outbox) c.args.self.now c.self.view_is c.self.invariant.0 c.in-Accepter.machine c.in-Accepter.is (sym c.is_plain.ensures ∙ c.if-is_plain.false) p.0 (end_of c.in_err-outs.field-0.0) c.on_reconcildiff.new.self c.self.inside.set p.2 c.in_err-outs.ensures.refused c.in_err-outs.ensures.unchanged refl)

pub push_all-requires : goal.push_all-requires
push_all-requires c = rw c.as_slice.ensures (response_sendable (diff_row c.args.success c.args.asks.now) (parts_of c.self.inside.config c.self.inside.peer c.self.inside.stage c.self.inside.set c.self.inside.store c.self.inside.outbox) c.args.self.now c.self.view_is c.self.invariant.0 c.in-Accepter.machine c.in-Accepter.is (sym c.is_plain.ensures ∙ c.if-is_plain.false) (record { machine = c.on_reconcildiff.new.self; out = c.in_ok-outs.outs }) c.in_ok-outs.ensures.answered c.requires.node c.requires.message c.requires.relaying)

pub invariant_of-self-in_err-push_all : goal.invariant_of-self-in_err-push_all
invariant_of-self-in_err-push_all c = (response_behind (diff_row c.args.success c.args.asks.now) (parts_of c.self.inside.config c.self.inside.peer c.self.inside.stage c.self.inside.set c.self.inside.store c.self.inside.outbox) c.args.self.now c.self.view_is c.self.invariant.0 c.in-Accepter.machine c.in-Accepter.is (sym c.is_plain.ensures ∙ c.if-is_plain.false) (record { machine = c.on_reconcildiff.new.self; out = c.in_ok-outs.outs }) c.in_ok-outs.ensures.answered c.requires.message c.requires.relaying, ap (λ (w : Waiting). w.magic) c.in_err-push_all.ensures.err ∙ c.self.invariant.1)

pub returns-in_err-push_all : goal.returns-in_err-push_all
returns-in_err-push_all c =
    let p = err_from_is_err_and c.from_residual-in_err-push_all.result c.from_residual-in_err-push_all.ensures.1 in
    starved (parts_of c.self.inside.config c.self.inside.peer c.self.inside.stage c.self.inside.set c.self.inside.store c.self.inside.outbox) (record (parts_of c.self.inside.config c.self.inside.peer c.self.inside.stage c.self.inside.set c.self.inside.store c.self.inside.outbox) { stage = stage.Accepter c.on_reconcildiff.new.self; set = c.self.inside.set; outbox = c.push_all.new.self }) c.args.self.now _ _ c.self.view_is refl refl (ap (λ (w : Waiting). w.bytes) c.in_err-push_all.ensures.err) (p.1 ∙ ap Err p.2)

pub invariant_of-self-2 : goal.invariant_of-self-2
invariant_of-self-2 c = (response_behind (diff_row c.args.success c.args.asks.now) (parts_of c.self.inside.config c.self.inside.peer c.self.inside.stage c.self.inside.set c.self.inside.store c.self.inside.outbox) c.args.self.now c.self.view_is c.self.invariant.0 c.in-Accepter.machine c.in-Accepter.is (sym c.is_plain.ensures ∙ c.if-is_plain.false) (record { machine = c.on_reconcildiff.new.self; out = c.in_ok-outs.outs }) c.in_ok-outs.ensures.answered c.requires.message c.requires.relaying, ap (λ (w : Waiting). w.magic) c.in_ok-push_all.ensures.ok ∙ c.self.invariant.1)

pub returns : goal.returns
returns c =
    response_taken (diff_row c.args.success c.args.asks.now) (parts_of c.self.inside.config c.self.inside.peer c.self.inside.stage c.self.inside.set c.self.inside.store c.self.inside.outbox) c.args.self.now c.self.view_is c.self.invariant.0 c.in-Accepter.machine c.in-Accepter.is (sym c.is_plain.ensures ∙ c.if-is_plain.false) (record { machine = c.on_reconcildiff.new.self; out = c.in_ok-outs.outs }) c.in_ok-outs.ensures.answered c.self.inside.set c.push_all.new.self c.self.invariant.1 refl (c.in_ok-push_all.ensures.ok ∙ ap (with_messages c.self.inside.outbox) c.as_slice.ensures)
