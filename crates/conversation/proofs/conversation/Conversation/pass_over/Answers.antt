use Rattle.std.proofs.Common.{refl, sym, ap}
use Rattle.node_rules.specs.State.{NodeView}
use Rattle.conversation.proofs.Steps.{stays}
use Rattle.conversation.proofs.conversation.Conversation.pass_over.Goals as goal

pub returns : goal.returns
returns c = stays c.args.self.now _ (ap (λ (v : NodeView). v.state.ended) (sym c.self.view_is)) refl
