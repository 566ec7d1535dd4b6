use Rattle.std.proofs.Common.{Some, Err, ap, ◌∙◌}
use Rattle.std.proofs.lemmas.Result.{err_from_is_err_and}
use Rattle.id_rules.specs.Ids.{KeyPair, keys_of}
use Rattle.pool_rules.specs.Pools.{pool_ids}
use Rattle.pool_rules.specs.Snapshots.{members}
use Rattle.node_rules.specs.Handshake.{on_verack}
use Rattle.node_rules.specs.State.{NodeView}
use Rattle.conversation.specs.Views.{offer_of}
use Rattle.conversation.proofs.Shaking.{of_config, pool_is, level_within, whole_taken}
use Rattle.conversation.proofs.Steps.{want}
use Rattle.conversation.proofs.Views.{parts_of}
use Rattle.conversation.proofs.conversation.Conversation.start_reconciling.Goals as goal

pub returns-in_err-ids : goal.returns-in_err-ids
returns-in_err-ids c =
    let p = err_from_is_err_and c.from_residual.result c.from_residual.ensures.1 in
    rw (p.1 ∙ ap Err p.2) (want c.args.self.now (on_verack c.args.self.now.state))

pub set_of-requires-clause-distinct : goal.set_of-requires-clause-distinct
set_of-requires-clause-distinct c = rw (c.as_slice.ensures ∙ c.in_ok-ids.ensures ∙ ap pool_ids c.pool.ensures) (pool_is (parts_of c.self.inside.config c.self.inside.peer c.self.inside.stage c.self.inside.set c.self.inside.store c.self.inside.outbox) c.args.self.now c.self.view_is c.requires.node).0

pub set_of-requires-clause-few : goal.set_of-requires-clause-few
set_of-requires-clause-few c = rw (c.as_slice.ensures ∙ c.in_ok-ids.ensures ∙ ap pool_ids c.pool.ensures) (pool_is (parts_of c.self.inside.config c.self.inside.peer c.self.inside.stage c.self.inside.set c.self.inside.store c.self.inside.outbox) c.args.self.now c.self.view_is c.requires.node).1

pub returns-in_err-set : goal.returns-in_err-set
returns-in_err-set c =
    let p = err_from_is_err_and c.from_residual-in_err-set.result c.from_residual-in_err-set.ensures.1 in
    rw (p.1 ∙ ap Err p.2) (want c.args.self.now (on_verack c.args.self.now.state))

pub idle_stage-requires-clause-least : goal.idle_stage-requires-clause-least
idle_stage-requires-clause-least c = rw c.level_of-level.ensures ((level_within c.self.inside.config.top (Some (offer_of c.args.offer)) (of_config c.self.inside.config c.args.self.now.state.config (ap (λ (v : NodeView). v.state.config) c.self.view_is) c.requires.node.config).least (of_config c.self.inside.config c.args.self.now.state.config (ap (λ (v : NodeView). v.state.config) c.self.view_is) c.requires.node.config).most (λ x e. c.requires.node.conversing.offer x (c.requires.offer ∙ e))).0)

pub idle_stage-requires-clause-most : goal.idle_stage-requires-clause-most
idle_stage-requires-clause-most c = rw c.level_of-level.ensures ((level_within c.self.inside.config.top (Some (offer_of c.args.offer)) (of_config c.self.inside.config c.args.self.now.state.config (ap (λ (v : NodeView). v.state.config) c.self.view_is) c.requires.node.config).least (of_config c.self.inside.config c.args.self.now.state.config (ap (λ (v : NodeView). v.state.config) c.self.view_is) c.requires.node.config).most (λ x e. c.requires.node.conversing.offer x (c.requires.offer ∙ e))).1)

pub returns : goal.returns
returns c =
    whole_taken (parts_of c.self.inside.config c.self.inside.peer c.self.inside.stage c.self.inside.set c.self.inside.store c.self.inside.outbox) c.args.self.now c.self.view_is c.self.invariant.0 c.requires.phase c.idle_stage.result c.level_of-level.result (record { machine = c.idle_stage.ensures.machine; requests = c.idle_stage.ensures.requests; plain = c.idle_stage.ensures.plain }) (offer_of c.args.offer) c.in_ok-set.set c.level_of-level.ensures c.requires.relays c.requires.offer
    (c.in_ok-set.ensures ∙ ap (λ (k : KeyPair). members k c.as_slice.result.now) c.from_salts-keys.ensures ∙ ap (members (keys_of c.self.inside.config.salt c.args.offer.salt)) (c.as_slice.ensures ∙ c.in_ok-ids.ensures ∙ ap pool_ids c.pool.ensures))
