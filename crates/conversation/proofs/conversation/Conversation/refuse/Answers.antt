use Rattle.std.proofs.Common.{refl, sym, ap, ◌∙◌}
use Rattle.node_rules.specs.Handshake.{on_unexpected}
use Rattle.node_rules.specs.declared.end.End.TheVariants as end
use Rattle.conversation.proofs.Steps.{refused}
use Rattle.conversation.proofs.Taking.{step_as}
use Rattle.conversation.proofs.conversation.Conversation.refuse.Goals as goal

pub returns-in-Some : goal.returns-in-Some
returns-in-Some c = refused c.args.self.now _ _ (end.Handshake c.in-Some.command) refl (ap (on_unexpected c.args.self.now.state) (sym c.name_of.ensures ∙ c.in-Some.is))

pub returns-in-None : goal.returns-in-None
returns-in-None c = step_as c.args.self.now _ _ _ _ (ap (on_unexpected c.args.self.now.state) (sym c.name_of.ensures ∙ c.in-None.is)) c.pass_over.ensures
