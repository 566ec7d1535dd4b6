use Rattle.std.proofs.Common.{refl, sym, ap, ◌∙◌}
use Rattle.node_rules.specs.State.{NodeView}
use Rattle.node_rules.specs.declared.end.End.TheVariants as end
use Rattle.conversation.proofs.Shaking.{unrelayed}
use Rattle.conversation.proofs.Steps.{refused}
use Rattle.conversation.proofs.conversation.Conversation.on_verack.Goals as goal

pub returns-then-not-self : goal.returns-then-not-self
returns-then-not-self c = refused c.args.self.now _ _ end.NoWtxidRelay refl (unrelayed c.args.self.now.state (ap (λ (v : NodeView). v.state.peer.relays_by_id) (sym c.self.view_is) ∙ c.if-not-self.true))
