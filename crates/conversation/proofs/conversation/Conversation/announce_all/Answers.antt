use Rattle.std.proofs.Common.{None, Err, refl, ap, ◌∙◌}
use Rattle.std.proofs.lemmas.Result.{err_from_is_err_and}
use Rattle.pool_rules.specs.Pools.{pool_ids}
use Rattle.node_rules.specs.Handshake.{on_verack}
use Rattle.node_rules.specs.State.{NodeView}
use Rattle.node_rules.specs.Turns.{inv_of}
use Rattle.outbox.specs.Waiting.{Waiting, with_messages}
use Rattle.conversation.proofs.Shaking.{of_config, level_within, plain_sendable, plain_taken, nothing_in_set}
use Rattle.conversation.proofs.Steps.{want}
use Rattle.conversation.proofs.Views.{parts_of, starved}
use Rattle.conversation.proofs.conversation.Conversation.announce_all.Goals as goal

pub returns-in_err-ids : goal.returns-in_err-ids
returns-in_err-ids c =
    let p = err_from_is_err_and c.from_residual.result c.from_residual.ensures.1 in
    rw (p.1 ∙ ap Err p.2) (want c.args.self.now (on_verack c.args.self.now.state))

pub returns-in_err-messages : goal.returns-in_err-messages
returns-in_err-messages c =
    let p = err_from_is_err_and c.from_residual-in_err-messages.result c.from_residual-in_err-messages.ensures.1 in
    rw (p.1 ∙ ap Err p.2) (want c.args.self.now (on_verack c.args.self.now.state))

pub push_all-requires : goal.push_all-requires
push_all-requires c = rw (c.as_slice-2.ensures.value ∙ c.in_ok-messages.ensures ∙ ap inv_of (c.as_slice.ensures ∙ c.in_ok-ids.ensures ∙ ap pool_ids c.pool.ensures)) (plain_sendable (parts_of c.self.inside.config c.self.inside.peer c.self.inside.stage c.self.inside.set c.self.inside.store c.self.inside.outbox) c.args.self.now c.self.view_is c.requires.node c.requires.phase c.requires.relays c.requires.offer)

pub returns-in_err-push_all : goal.returns-in_err-push_all
returns-in_err-push_all c =
    let p = err_from_is_err_and c.from_residual-in_err-push_all.result c.from_residual-in_err-push_all.ensures.1 in
    starved (parts_of c.self.inside.config c.self.inside.peer c.self.inside.stage c.self.inside.set c.self.inside.store c.self.inside.outbox) (record (parts_of c.self.inside.config c.self.inside.peer c.self.inside.stage c.self.inside.set c.self.inside.store c.self.inside.outbox) { outbox = c.push_all.new.self }) c.args.self.now _ _ c.self.view_is refl refl (ap (λ (w : Waiting). w.bytes) c.in_err-push_all.ensures.err) (p.1 ∙ ap Err p.2)

pub idle_stage-requires-clause-least : goal.idle_stage-requires-clause-least
idle_stage-requires-clause-least c = rw c.level_of-level.ensures ((level_within c.self.inside.config.top None (of_config c.self.inside.config c.args.self.now.state.config (ap (λ (v : NodeView). v.state.config) c.self.view_is) c.requires.node.config).least (of_config c.self.inside.config c.args.self.now.state.config (ap (λ (v : NodeView). v.state.config) c.self.view_is) c.requires.node.config).most (λ x e. c.requires.node.conversing.offer x (c.requires.offer ∙ e))).0)

pub idle_stage-requires-clause-most : goal.idle_stage-requires-clause-most
idle_stage-requires-clause-most c = rw c.level_of-level.ensures ((level_within c.self.inside.config.top None (of_config c.self.inside.config c.args.self.now.state.config (ap (λ (v : NodeView). v.state.config) c.self.view_is) c.requires.node.config).least (of_config c.self.inside.config c.args.self.now.state.config (ap (λ (v : NodeView). v.state.config) c.self.view_is) c.requires.node.config).most (λ x e. c.requires.node.conversing.offer x (c.requires.offer ∙ e))).1)

pub invariant_of-self-2 : goal.invariant_of-self-2
invariant_of-self-2 c = (c.idle_stage.ensures.stage, ap (λ (w : Waiting). w.magic) c.in_ok-push_all.ensures.ok ∙ c.self.invariant.1)

pub returns : goal.returns
returns c =
    plain_taken (parts_of c.self.inside.config c.self.inside.peer c.self.inside.stage c.self.inside.set c.self.inside.store c.self.inside.outbox) c.args.self.now c.self.view_is c.self.invariant.0 c.requires.phase c.idle_stage.result c.level_of-level.result (record { machine = c.idle_stage.ensures.machine; requests = c.idle_stage.ensures.requests; plain = c.idle_stage.ensures.plain }) c.push_all.new.self c.self.invariant.1 c.level_of-level.ensures (nothing_in_set (parts_of c.self.inside.config c.self.inside.peer c.self.inside.stage c.self.inside.set c.self.inside.store c.self.inside.outbox) c.args.self.now c.self.view_is c.requires.node c.requires.phase) c.requires.relays c.requires.offer
    (c.in_ok-push_all.ensures.ok ∙ ap (with_messages c.self.inside.outbox) (c.as_slice-2.ensures.value ∙ c.in_ok-messages.ensures ∙ ap inv_of (c.as_slice.ensures ∙ c.in_ok-ids.ensures ∙ ap pool_ids c.pool.ensures)))
