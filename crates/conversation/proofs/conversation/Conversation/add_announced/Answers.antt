use Rattle.std.proofs.Common.{sym, ◌∙◌, subst}
use Rattle.std.specs.List.{AllByRecursion}
use Rattle.wire_rules.specs.Limits.{IsMessage}
use Rattle.node_rules.specs.State.{NodeView}
use Rattle.relay_store.specs.Holdings.{AreHoldings, holdings_of}
use Rattle.conversation.proofs.Adding.{id-sendable}
use Rattle.conversation.proofs.News.{are_holdings}
use Rattle.conversation.proofs.conversation.Conversation.add_announced.Goals as goal

pub push_all-requires : goal.push_all-requires
push_all-requires c = subst (λ ms. AllByRecursion IsMessage ms) (sym (c.as_slice.ensures.value ∙ c.in_ok-messages.ensures)) (id-sendable c.args.id c.args.tx c.requires.named)

pub insert-requires-clause-held : goal.insert-requires-clause-held
insert-requires-clause-held c = subst (λ (v : NodeView). AreHoldings (holdings_of v.state)) (sym c.self.view_is) (are_holdings c.args.self.now.state c.requires.node.store)
