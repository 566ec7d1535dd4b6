use Rattle.std.proofs.Common.{sym, ◌∙◌}
use Rattle.conversation.proofs.Taking.{not_before, greeting_handled, greeted_handled, relay_handled}
use Rattle.conversation.proofs.conversation.Conversation.take.Goals as goal

pub returns-in-Greeting : goal.returns-in-Greeting
returns-in-Greeting c = greeting_handled c.args.self.now _ c.args.message _ (sym c.phase.ensures ∙ c.in-Greeting.is) c.in_greeting.ensures

pub returns-in-Greeted : goal.returns-in-Greeted
returns-in-Greeted c = greeted_handled c.args.self.now _ c.args.message _ (sym c.phase.ensures ∙ c.in-Greeted.is) c.in_greeted.ensures

pub in_relay-requires-clause-relaying : goal.in_relay-requires-clause-relaying
in_relay-requires-clause-relaying c = not_before c.args.self.now.state.machine.phase (λ e. c.in_default.not-Greeting (c.phase.ensures ∙ e)) (λ e. c.in_default.not-Greeted (c.phase.ensures ∙ e))

pub returns : goal.returns
returns c = relay_handled c.args.self.now _ c.args.message _ (not_before c.args.self.now.state.machine.phase (λ e. c.in_default.not-Greeting (c.phase.ensures ∙ e)) (λ e. c.in_default.not-Greeted (c.phase.ensures ∙ e))) c.in_relay.ensures
