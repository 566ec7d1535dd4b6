use Rattle.std.proofs.Common.{Err, refl, sym, ap, ◌∙◌}
use Rattle.std.proofs.lemmas.Result.{err_from_is_err_and}
use Rattle.node_rules.specs.Barrier.{after_barrier}
use Rattle.node_rules.specs.State.{NodeView}
use Rattle.node_rules.specs.Turns.{getdata_of}
use Rattle.outbox.specs.Waiting.{Waiting, with_messages}
use Rattle.relay_store.specs.Holdings.{holdings_of}
use Rattle.conversation.specs.declared.stage.Stage.TheVariants as stage
use Rattle.conversation.proofs.Held.{held}
use Rattle.conversation.proofs.Ponging.{pong-other, pong-kept, pong-unasked, pong-answer, pong-sendable, pong-behind, pong-taken}
use Rattle.conversation.proofs.Views.{parts_of, starved}
use Rattle.conversation.proofs.conversation.Conversation.on_pong.Goals as goal

pub returns-in_default : goal.returns-in_default
returns-in_default c = pong-other c.args.number (parts_of c.self.inside.config c.self.inside.peer c.self.inside.stage c.self.inside.set c.self.inside.store c.self.inside.outbox) c.args.self.now c.self.view_is c.self.invariant.0 c.requires.relaying c.in_default.not-Opener

pub returns-then-not-ends_barrier : goal.returns-then-not-ends_barrier
returns-then-not-ends_barrier c = (pong-kept c.args.number (parts_of c.self.inside.config c.self.inside.peer c.self.inside.stage c.self.inside.set c.self.inside.store c.self.inside.outbox) c.args.self.now c.self.view_is c.self.invariant.0 c.in-Opener.machine c.in-Opener.is (sym c.ends_barrier.ensures ∙ c.if-not-ends_barrier.true))

pub returns-in_err-wanted : goal.returns-in_err-wanted
returns-in_err-wanted c =
    let p = err_from_is_err_and c.from_residual.result c.from_residual.ensures.1 in
    starved (parts_of c.self.inside.config c.self.inside.peer c.self.inside.stage c.self.inside.set c.self.inside.store c.self.inside.outbox) (record (parts_of c.self.inside.config c.self.inside.peer c.self.inside.stage c.self.inside.set c.self.inside.store c.self.inside.outbox) { stage = stage.Opener c.in-Opener.machine }) c.args.self.now _ _ c.self.view_is refl refl refl (p.1 ∙ ap Err p.2)

pub returns-in_err-outs : goal.returns-in_err-outs
returns-in_err-outs c =
    let p = err_from_is_err_and c.from_residual-in_err-outs.result c.from_residual-in_err-outs.ensures.1 in
    starved (parts_of c.self.inside.config c.self.inside.peer c.self.inside.stage c.self.inside.set c.self.inside.store c.self.inside.outbox) (record (parts_of c.self.inside.config c.self.inside.peer c.self.inside.stage c.self.inside.set c.self.inside.store c.self.inside.outbox) { stage = stage.Opener c.on_pong.new.self }) c.args.self.now _ _ c.self.view_is refl refl refl (p.1 ∙ ap Err p.2)

pub push_all-requires : goal.push_all-requires
push_all-requires c = rw (c.as_slice.ensures ∙ (pong-answer c.args.number (parts_of c.self.inside.config c.self.inside.peer c.self.inside.stage c.self.inside.set c.self.inside.store c.self.inside.outbox) c.args.self.now c.self.view_is c.self.invariant.0 c.in-Opener.machine c.in-Opener.is (sym c.ends_barrier.ensures ∙ c.if-not-ends_barrier.false) c.on_pong.new.self.machine c.in_ok-wanted.wanted c.in_ok-outs.outs c.in_ok-outs.ensures.ok).1 ∙ ap getdata_of c.in_ok-wanted.ensures) (pong-sendable c.args.number (parts_of c.self.inside.config c.self.inside.peer c.self.inside.stage c.self.inside.set c.self.inside.store c.self.inside.outbox) c.args.self.now c.self.view_is c.self.invariant.0 c.in-Opener.machine c.in-Opener.is (sym c.ends_barrier.ensures ∙ c.if-not-ends_barrier.false) c.requires.node c.requires.message c.requires.relaying)

pub invariant_of-self-in_err-push_all : goal.invariant_of-self-in_err-push_all
invariant_of-self-in_err-push_all c = (pong-behind c.args.number (parts_of c.self.inside.config c.self.inside.peer c.self.inside.stage c.self.inside.set c.self.inside.store c.self.inside.outbox) c.args.self.now c.self.view_is c.self.invariant.0 c.in-Opener.machine c.in-Opener.is (sym c.ends_barrier.ensures ∙ c.if-not-ends_barrier.false) c.on_pong.new.self ((pong-answer c.args.number (parts_of c.self.inside.config c.self.inside.peer c.self.inside.stage c.self.inside.set c.self.inside.store c.self.inside.outbox) c.args.self.now c.self.view_is c.self.invariant.0 c.in-Opener.machine c.in-Opener.is (sym c.ends_barrier.ensures ∙ c.if-not-ends_barrier.false) c.on_pong.new.self.machine c.in_ok-wanted.wanted c.in_ok-outs.outs c.in_ok-outs.ensures.ok).0 ∙ ap (after_barrier c.in-Opener.machine.machine) c.in_ok-wanted.ensures) c.requires.message c.requires.relaying, ap (λ (w : Waiting). w.magic) c.in_err-push_all.ensures.err ∙ c.self.invariant.1)

pub returns-in_err-push_all : goal.returns-in_err-push_all
returns-in_err-push_all c =
    let p = err_from_is_err_and c.from_residual-in_err-push_all.result c.from_residual-in_err-push_all.ensures.1 in
    starved (parts_of c.self.inside.config c.self.inside.peer c.self.inside.stage c.self.inside.set c.self.inside.store c.self.inside.outbox) (record (parts_of c.self.inside.config c.self.inside.peer c.self.inside.stage c.self.inside.set c.self.inside.store c.self.inside.outbox) { stage = stage.Opener c.on_pong.new.self; outbox = c.push_all.new.self }) c.args.self.now _ _ c.self.view_is refl refl (ap (λ (w : Waiting). w.bytes) c.in_err-push_all.ensures.err) (p.1 ∙ ap Err p.2)

pub ask_wanted-requires-clause-held : goal.ask_wanted-requires-clause-held
ask_wanted-requires-clause-held c = λ s e. held c.args.self.now.state c.requires.node.store s (e ∙ ap (λ (v : NodeView). holdings_of v.state) c.self.view_is)

pub ask_wanted-requires-clause-none : goal.ask_wanted-requires-clause-none
ask_wanted-requires-clause-none c = pong-unasked c.args.number (parts_of c.self.inside.config c.self.inside.peer c.self.inside.stage c.self.inside.set c.self.inside.store c.self.inside.outbox) c.args.self.now c.self.view_is c.self.invariant.0 c.in-Opener.machine c.in-Opener.is (sym c.ends_barrier.ensures ∙ c.if-not-ends_barrier.false) c.requires.node

pub invariant_of-self-2 : goal.invariant_of-self-2
invariant_of-self-2 c = (pong-behind c.args.number (parts_of c.self.inside.config c.self.inside.peer c.self.inside.stage c.self.inside.set c.self.inside.store c.self.inside.outbox) c.args.self.now c.self.view_is c.self.invariant.0 c.in-Opener.machine c.in-Opener.is (sym c.ends_barrier.ensures ∙ c.if-not-ends_barrier.false) c.on_pong.new.self ((pong-answer c.args.number (parts_of c.self.inside.config c.self.inside.peer c.self.inside.stage c.self.inside.set c.self.inside.store c.self.inside.outbox) c.args.self.now c.self.view_is c.self.invariant.0 c.in-Opener.machine c.in-Opener.is (sym c.ends_barrier.ensures ∙ c.if-not-ends_barrier.false) c.on_pong.new.self.machine c.in_ok-wanted.wanted c.in_ok-outs.outs c.in_ok-outs.ensures.ok).0 ∙ ap (after_barrier c.in-Opener.machine.machine) c.in_ok-wanted.ensures) c.requires.message c.requires.relaying, ap (λ (w : Waiting). w.magic) c.in_ok-push_all.ensures.ok ∙ c.self.invariant.1)

pub returns : goal.returns
returns c =
    pong-taken c.args.number (parts_of c.self.inside.config c.self.inside.peer c.self.inside.stage c.self.inside.set c.self.inside.store c.self.inside.outbox) c.args.self.now c.self.view_is c.self.invariant.0 c.in-Opener.machine c.in-Opener.is (sym c.ends_barrier.ensures ∙ c.if-not-ends_barrier.false) c.on_pong.new.self c.ask_wanted.new.self c.push_all.new.self c.self.invariant.1 (pong-unasked c.args.number (parts_of c.self.inside.config c.self.inside.peer c.self.inside.stage c.self.inside.set c.self.inside.store c.self.inside.outbox) c.args.self.now c.self.view_is c.self.invariant.0 c.in-Opener.machine c.in-Opener.is (sym c.ends_barrier.ensures ∙ c.if-not-ends_barrier.false) c.requires.node) ((pong-answer c.args.number (parts_of c.self.inside.config c.self.inside.peer c.self.inside.stage c.self.inside.set c.self.inside.store c.self.inside.outbox) c.args.self.now c.self.view_is c.self.invariant.0 c.in-Opener.machine c.in-Opener.is (sym c.ends_barrier.ensures ∙ c.if-not-ends_barrier.false) c.on_pong.new.self.machine c.in_ok-wanted.wanted c.in_ok-outs.outs c.in_ok-outs.ensures.ok).0 ∙ ap (after_barrier c.in-Opener.machine.machine) c.in_ok-wanted.ensures) c.in_ok-outs.ensures.requests c.ask_wanted.ensures
    (c.in_ok-push_all.ensures.ok ∙ ap (with_messages c.self.inside.outbox) (c.as_slice.ensures ∙ (pong-answer c.args.number (parts_of c.self.inside.config c.self.inside.peer c.self.inside.stage c.self.inside.set c.self.inside.store c.self.inside.outbox) c.args.self.now c.self.view_is c.self.invariant.0 c.in-Opener.machine c.in-Opener.is (sym c.ends_barrier.ensures ∙ c.if-not-ends_barrier.false) c.on_pong.new.self.machine c.in_ok-wanted.wanted c.in_ok-outs.outs c.in_ok-outs.ensures.ok).1 ∙ ap getdata_of c.in_ok-wanted.ensures))
