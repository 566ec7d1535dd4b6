use Rattle.std.proofs.Common.{Err, refl, sym, ap, ◌∙◌}
use Rattle.std.proofs.lemmas.Result.{err_from_is_err_and}
use Rattle.initiator.specs.Questions.{end_of}
use Rattle.outbox.specs.Waiting.{Waiting, with_messages}
use Rattle.conversation.specs.declared.stage.Stage.TheVariants as stage
use Rattle.conversation.proofs.Opening.{sketch-plain, sketch-other, sketch-stopped, sketch-sendable, sketch-behind, sketch-taken}
use Rattle.conversation.proofs.Views.{parts_of, starved}
use Rattle.conversation.proofs.conversation.Conversation.on_sketch.Goals as goal

pub returns-then-is_plain : goal.returns-then-is_plain
returns-then-is_plain c = sketch-plain c.args.skdata.now c.args.self.now c.misplaced-misplaced.result (sym c.is_plain.ensures ∙ c.if-is_plain.true) c.misplaced-misplaced.ensures

pub returns-in_default : goal.returns-in_default
returns-in_default c = sketch-other c.args.skdata.now (parts_of c.self.inside.config c.self.inside.peer c.self.inside.stage c.self.inside.set c.self.inside.store c.self.inside.outbox) c.args.self.now c.self.view_is c.self.invariant.0 c.misplaced-misplaced.result c.requires.relaying c.in_default.not-Opener c.misplaced-misplaced.ensures

pub returns-in_err-outs : goal.returns-in_err-outs
returns-in_err-outs c =
    let p = err_from_is_err_and c.from_residual.result c.from_residual.ensures.1 in
    rw p.1 (sketch-stopped c.args.skdata.now (parts_of c.self.inside.config c.self.inside.peer c.self.inside.stage c.self.inside.set c.self.inside.store c.self.inside.outbox) c.args.self.now c.self.view_is c.self.invariant.0 c.in-Opener.machine c.in-Opener.is (sym c.is_plain.ensures ∙ c.if-is_plain.false) p.0 (end_of c.in_err-outs.field-0.0) c.take_sketch.new.machine c.take_sketch.new.set p.2 c.in_err-outs.ensures.told c.in_err-outs.ensures.err.0 c.in_err-outs.ensures.err.1)

pub push_all-requires : goal.push_all-requires
push_all-requires c = rw c.as_slice.ensures (sketch-sendable c.args.skdata.now (parts_of c.self.inside.config c.self.inside.peer c.self.inside.stage c.self.inside.set c.self.inside.store c.self.inside.outbox) c.args.self.now c.self.view_is c.self.invariant.0 c.in-Opener.machine c.in-Opener.is (sym c.is_plain.ensures ∙ c.if-is_plain.false) (record { initiator = c.take_sketch.new.machine; set = c.take_sketch.new.set; out = c.in_ok-outs.outs }) c.in_ok-outs.ensures.ok c.requires.node c.requires.message c.requires.relaying)

pub invariant_of-self-in_err-push_all : goal.invariant_of-self-in_err-push_all
invariant_of-self-in_err-push_all c = (sketch-behind c.args.skdata.now (parts_of c.self.inside.config c.self.inside.peer c.self.inside.stage c.self.inside.set c.self.inside.store c.self.inside.outbox) c.args.self.now c.self.view_is c.self.invariant.0 c.in-Opener.machine c.in-Opener.is (sym c.is_plain.ensures ∙ c.if-is_plain.false) (record { initiator = c.take_sketch.new.machine; set = c.take_sketch.new.set; out = c.in_ok-outs.outs }) c.in_ok-outs.ensures.ok c.requires.message c.requires.relaying, ap (λ (w : Waiting). w.magic) c.in_err-push_all.ensures.err ∙ c.self.invariant.1)

pub returns-in_err-push_all : goal.returns-in_err-push_all
returns-in_err-push_all c =
    let p = err_from_is_err_and c.from_residual-in_err-push_all.result c.from_residual-in_err-push_all.ensures.1 in
    starved (parts_of c.self.inside.config c.self.inside.peer c.self.inside.stage c.self.inside.set c.self.inside.store c.self.inside.outbox) (record (parts_of c.self.inside.config c.self.inside.peer c.self.inside.stage c.self.inside.set c.self.inside.store c.self.inside.outbox) { stage = stage.Opener c.take_sketch.new.machine; set = c.take_sketch.new.set; outbox = c.push_all.new.self }) c.args.self.now _ _ c.self.view_is refl refl (ap (λ (w : Waiting). w.bytes) c.in_err-push_all.ensures.err) (p.1 ∙ ap Err p.2)

pub invariant_of-self-2 : goal.invariant_of-self-2
invariant_of-self-2 c = (sketch-behind c.args.skdata.now (parts_of c.self.inside.config c.self.inside.peer c.self.inside.stage c.self.inside.set c.self.inside.store c.self.inside.outbox) c.args.self.now c.self.view_is c.self.invariant.0 c.in-Opener.machine c.in-Opener.is (sym c.is_plain.ensures ∙ c.if-is_plain.false) (record { initiator = c.take_sketch.new.machine; set = c.take_sketch.new.set; out = c.in_ok-outs.outs }) c.in_ok-outs.ensures.ok c.requires.message c.requires.relaying, ap (λ (w : Waiting). w.magic) c.in_ok-push_all.ensures.ok ∙ c.self.invariant.1)

pub returns : goal.returns
returns c = sketch-taken c.args.skdata.now (parts_of c.self.inside.config c.self.inside.peer c.self.inside.stage c.self.inside.set c.self.inside.store c.self.inside.outbox) c.args.self.now c.self.view_is c.self.invariant.0 c.in-Opener.machine c.in-Opener.is (sym c.is_plain.ensures ∙ c.if-is_plain.false) (record { initiator = c.take_sketch.new.machine; set = c.take_sketch.new.set; out = c.in_ok-outs.outs }) c.in_ok-outs.ensures.ok c.push_all.new.self c.self.invariant.1 (c.in_ok-push_all.ensures.ok ∙ ap (with_messages c.self.inside.outbox) c.as_slice.ensures)
