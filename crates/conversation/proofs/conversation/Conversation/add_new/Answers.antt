use Rattle.std.proofs.Common.{◌≡◌, ◌&&◌, not, false, sym, ◌∙◌, subst}
use Rattle.pool_rules.specs.Pools.{is_listed, transaction_of}
use Rattle.node_rules.specs.Additions.{after_addition}
use Rattle.node_rules.specs.Stages.{is_after_handshake}
use Rattle.node_rules.specs.State.{NodeView, open_wants}
use Rattle.node_rules.specs.Turns.{after_turn}
use Rattle.conversation.specs.contracts.conversation.Conversation.{the_view}
use Rattle.conversation.proofs.Adding.{announced_view, known_view, member_view, past_handshake, unknown_id}
use Rattle.conversation.proofs.Relaying.{with_holdings}
use Rattle.conversation.proofs.conversation.Conversation.add_new.Goals as goal

pub returns-then-not-is_news-clause-ok : goal.returns-then-not-is_news-clause-ok
returns-then-not-is_news-clause-ok c =
    let v : NodeView = the_view c.self.inside in
    let id = c.args.id in
    subst (λ (u : NodeView). with_holdings v c.insert.new.self ≡ after_turn u (after_addition u.state (transaction_of c.args.tx))) c.self.view_is
    (known_view v c.args.tx id c.requires.named c.insert.new.self c.in_ok-insert.ensures.ok
    (subst (λ (v : NodeView). (not (is_listed (open_wants v.state) id) && is_after_handshake v.state.machine.phase) ≡ false) (sym c.self.view_is) (sym c.is_news.ensures ∙ c.if-not-is_news.true)))

pub returns-then-is_plain-clause-ok : goal.returns-then-is_plain-clause-ok
returns-then-is_plain-clause-ok c =
    announced_view c.args.self.now c.args.tx c.args.id c.requires.named c.add_announced.new.self (sym c.is_news.ensures ∙ c.if-not-is_news.false) (sym c.is_plain.ensures ∙ c.if-is_plain.true) c.in_ok-add_announced.ensures.ok

pub returns-clause-ok : goal.returns-clause-ok
returns-clause-ok c =
    member_view c.args.self.now c.args.tx c.args.id c.requires.named c.add_member.new.self (sym c.is_news.ensures ∙ c.if-not-is_news.false) (sym c.is_plain.ensures ∙ c.if-is_plain.false) c.in_ok-add_member.ensures.ok

pub add_member-requires-clause-relaying : goal.add_member-requires-clause-relaying
add_member-requires-clause-relaying c = past_handshake c.args.self.now c.args.tx c.args.id c.requires.named c.args.self.now (sym c.is_news.ensures ∙ c.if-not-is_news.false)

pub add_member-requires-clause-unknown : goal.add_member-requires-clause-unknown
add_member-requires-clause-unknown c = unknown_id c.args.self.now c.args.tx c.args.id c.requires.named c.args.self.now (sym c.is_news.ensures ∙ c.if-not-is_news.false)
