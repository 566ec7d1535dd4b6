use Rattle.std.proofs.Common.{Err, int_lt, pos, refl, sym, ap, ◌∙◌}
use Rattle.std.proofs.lemmas.Result.{err_from_is_err_and}
use Rattle.invariant_laws.proofs.Sendable.{reply_sent}
use Rattle.node_rules.specs.Handshake.{on_version}
use Rattle.node_rules.specs.State.{NodeView}
use Rattle.node_rules.specs.declared.end.End.TheVariants as end
use Rattle.outbox.specs.Waiting.{Waiting, with_messages}
use Rattle.conversation.specs.declared.stop.Stop.TheVariants as stop
use Rattle.conversation.proofs.Shaking.{version_same, old_version, silent_version, version_taken}
use Rattle.conversation.proofs.Stages.{fresh_greeted}
use Rattle.conversation.proofs.Steps.{refused, want}
use Rattle.conversation.proofs.Views.{parts_of, starved}
use Rattle.conversation.proofs.conversation.Conversation.on_version.Goals as goal

pub returns-then-is_old : goal.returns-then-is_old
returns-then-is_old c = refused c.args.self.now (on_version c.args.self.now.state c.args.version.now) _ (end.OldPeer c.args.version.now.version) (ap (λ z. stop.Ended (end.OldPeer z)) (version_same c.args.version.now c.requires.message)) (old_version c.args.self.now.state c.args.version.now (ap (λ z. int_lt z (pos 70016)) (sym (version_same c.args.version.now c.requires.message)) ∙ (sym c.is_old.ensures ∙ c.if-is_old.true)))

pub returns-then-has_no_relay : goal.returns-then-has_no_relay
returns-then-has_no_relay c = refused c.args.self.now (on_version c.args.self.now.state c.args.version.now) _ end.PeerNoRelay refl (silent_version c.args.self.now.state c.args.version.now (ap (λ z. int_lt z (pos 70016)) (sym (version_same c.args.version.now c.requires.message)) ∙ (sym c.is_old.ensures ∙ c.if-is_old.false)) (sym c.has_no_relay.ensures ∙ c.if-has_no_relay.true))

pub returns-in_err-messages : goal.returns-in_err-messages
returns-in_err-messages c =
    let p = err_from_is_err_and c.from_residual.result c.from_residual.ensures.1 in
    rw (p.1 ∙ ap Err p.2) (want c.args.self.now (on_version c.args.self.now.state c.args.version.now))

pub push_all-requires : goal.push_all-requires
push_all-requires c = rw (c.as_slice.ensures.value ∙ c.in_ok-messages.ensures) (reply_sent c.self.inside.config.role c.self.inside.config (rw (ap (λ (v : NodeView). v.state.config) c.self.view_is) c.requires.node.config))

pub returns-in_err-push_all : goal.returns-in_err-push_all
returns-in_err-push_all c =
    let p = err_from_is_err_and c.from_residual-in_err-push_all.result c.from_residual-in_err-push_all.ensures.1 in
    starved (parts_of c.self.inside.config c.self.inside.peer c.self.inside.stage c.self.inside.set c.self.inside.store c.self.inside.outbox) (record (parts_of c.self.inside.config c.self.inside.peer c.self.inside.stage c.self.inside.set c.self.inside.store c.self.inside.outbox) { outbox = c.push_all.new.self }) c.args.self.now _ _ c.self.view_is refl refl (ap (λ (w : Waiting). w.bytes) c.in_err-push_all.ensures.err) (p.1 ∙ ap Err p.2)

pub invariant_of-self-2 : goal.invariant_of-self-2
invariant_of-self-2 c = (fresh_greeted c.self.inside.config.role, ap (λ (w : Waiting). w.magic) c.in_ok-push_all.ensures.ok ∙ c.self.invariant.1)

pub returns : goal.returns
returns c = version_taken (parts_of c.self.inside.config c.self.inside.peer c.self.inside.stage c.self.inside.set c.self.inside.store c.self.inside.outbox) c.args.self.now c.self.view_is c.args.version.now c.push_all.new.self c.self.invariant.0 c.self.invariant.1 c.requires.phase (ap (λ z. int_lt z (pos 70016)) (sym (version_same c.args.version.now c.requires.message)) ∙ (sym c.is_old.ensures ∙ c.if-is_old.false)) (sym c.has_no_relay.ensures ∙ c.if-has_no_relay.false) (c.in_ok-push_all.ensures.ok ∙ ap (with_messages c.self.inside.outbox) (c.as_slice.ensures.value ∙ c.in_ok-messages.ensures))
