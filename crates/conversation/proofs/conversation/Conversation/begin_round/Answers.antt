use Rattle.std.proofs.Common.{[], ◌∷◌, sym, ap, ◌∙◌}
use Rattle.outbox.specs.Waiting.{Waiting, with_messages}
use Rattle.node_rules.specs.Opener.{round_start}
use Rattle.conversation.proofs.Starting.{idle_is, not_idle, start-other, start-busy, start-told, start-plain, start-whole, start-behind, plain-behind, whole-behind}
use Rattle.conversation.proofs.Views.{parts_of}
use Rattle.conversation.proofs.conversation.Conversation.begin_round.Goals as goal

pub returns-in_default : goal.returns-in_default
returns-in_default c = let k = start-other (parts_of c.self.inside.config c.self.inside.peer c.self.inside.stage c.self.inside.set c.self.inside.store c.self.inside.outbox) c.args.self.now c.self.view_is c.self.invariant.0 c.in_default.not-Opener in record { told = k.0; ok = k.1; err = tt }

pub returns-in_default-phase : goal.returns-in_default-phase
returns-in_default-phase c =
    let k = start-busy (parts_of c.self.inside.config c.self.inside.peer c.self.inside.stage c.self.inside.set c.self.inside.store c.self.inside.outbox) c.args.self.now c.self.view_is c.self.invariant.0 c.in-Opener.machine c.in-Opener.is (not_idle c.in-Opener.machine.machine.phase (λ e. c.in_default-phase.not-Idle (c.phase.ensures ∙ e))) in
    record { told = k.0; ok = k.1; err = tt }

pub start_plain_round-requires : goal.start_plain_round-requires
start_plain_round-requires c = (idle_is c.in-Opener.machine.machine.phase (sym c.phase.ensures ∙ c.in-Idle.is))

pub invariant_of-self-then-is_plain : goal.invariant_of-self-then-is_plain
invariant_of-self-then-is_plain c = (start-behind (parts_of c.self.inside.config c.self.inside.peer c.self.inside.stage c.self.inside.set c.self.inside.store c.self.inside.outbox) c.args.self.now c.self.view_is c.self.invariant.0 c.in-Opener.machine c.in-Opener.is c.start_plain_round.new.machine (plain-behind c.in-Opener.machine c.start_plain_round.new.machine c.in_ok-start_plain_round.ensures.machine), ap (λ (w : Waiting). w.magic) c.in_ok-start_plain_round.ensures.sent ∙ c.self.invariant.1)

pub returns-then-is_plain-clause-told : goal.returns-then-is_plain-clause-told
returns-then-is_plain-clause-told c = start-told (parts_of c.self.inside.config c.self.inside.peer c.self.inside.stage c.self.inside.set c.self.inside.store c.self.inside.outbox) c.args.self.now c.self.view_is c.self.invariant.0 c.in-Opener.machine c.in-Opener.is (idle_is c.in-Opener.machine.machine.phase (sym c.phase.ensures ∙ c.in-Idle.is))

pub returns-then-is_plain-clause-ok : goal.returns-then-is_plain-clause-ok
returns-then-is_plain-clause-ok c = start-plain (parts_of c.self.inside.config c.self.inside.peer c.self.inside.stage c.self.inside.set c.self.inside.store c.self.inside.outbox) c.args.self.now c.self.view_is c.self.invariant.0 c.in-Opener.machine c.in-Opener.is (idle_is c.in-Opener.machine.machine.phase (sym c.phase.ensures ∙ c.in-Idle.is)) (sym c.is_plain-is_plain.ensures ∙ c.if-is_plain.true) c.start_plain_round.new.machine c.start_plain_round.new.outbox c.self.invariant.1 c.in_ok-start_plain_round.ensures.machine c.in_ok-start_plain_round.ensures.sent

pub start_round-requires : goal.start_round-requires
start_round-requires c = (idle_is c.in-Opener.machine.machine.phase (sym c.phase.ensures ∙ c.in-Idle.is))

pub invariant_of-self-2 : goal.invariant_of-self-2
invariant_of-self-2 c = (start-behind (parts_of c.self.inside.config c.self.inside.peer c.self.inside.stage c.self.inside.set c.self.inside.store c.self.inside.outbox) c.args.self.now c.self.view_is c.self.invariant.0 c.in-Opener.machine c.in-Opener.is c.start_round.new.machine (whole-behind c.in-Opener.machine c.start_round.new.machine c.len.result c.in_ok-start_round.ensures.machine), ap (λ (w : Waiting). w.magic) c.in_ok-start_round.ensures.sent ∙ c.self.invariant.1)

pub returns-clause-told : goal.returns-clause-told
returns-clause-told c = start-told (parts_of c.self.inside.config c.self.inside.peer c.self.inside.stage c.self.inside.set c.self.inside.store c.self.inside.outbox) c.args.self.now c.self.view_is c.self.invariant.0 c.in-Opener.machine c.in-Opener.is (idle_is c.in-Opener.machine.machine.phase (sym c.phase.ensures ∙ c.in-Idle.is))

pub returns-clause-ok : goal.returns-clause-ok
returns-clause-ok c = start-whole (parts_of c.self.inside.config c.self.inside.peer c.self.inside.stage c.self.inside.set c.self.inside.store c.self.inside.outbox) c.args.self.now c.self.view_is c.self.invariant.0 c.in-Opener.machine c.in-Opener.is (idle_is c.in-Opener.machine.machine.phase (sym c.phase.ensures ∙ c.in-Idle.is)) (sym c.is_plain-is_plain.ensures ∙ c.if-is_plain.false) c.start_round.new.machine c.start_round.new.outbox c.self.invariant.1 (c.in_ok-start_round.ensures.machine ∙ ap (λ n. (round_start c.in-Opener.machine n).initiator) c.len.ensures.value) (c.in_ok-start_round.ensures.sent ∙ ap (λ n. with_messages c.self.inside.outbox ((round_start c.in-Opener.machine n).message ∷ [])) c.len.ensures.value)
