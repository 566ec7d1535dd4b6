use Rattle.std.proofs.Common.{sym, ap, ◌∙◌, subst}
use Rattle.id_rules.specs.Ids.{wtxid}
use Rattle.pool_rules.specs.Pools.{is_in_pool, transaction_of}
use Rattle.node_rules.specs.Additions.{Addition, is_full}
use Rattle.node_rules.specs.State.{NodeView}
use Rattle.node_rules.specs.Turns.{after_turn}
use Rattle.relay_store.specs.Holdings.{AreHoldings, holdings_of}
use Rattle.conversation.proofs.Adding.{full_addition, new_addition, present_addition}
use Rattle.conversation.proofs.News.{are_holdings}
use Rattle.conversation.proofs.Relaying.{quiet}
use Rattle.conversation.proofs.conversation.Conversation.add.Goals as goal

pub returns-then-contains-clause-told : goal.returns-then-contains-clause-told
returns-then-contains-clause-told c =
    let s = c.args.self.now.state in
    let unended = ap (λ (v : NodeView). v.state.ended) (sym c.self.view_is) in
    let id = c.wtxid-id.ensures ∙ ap wtxid c.as_slice.ensures in
    let pooled = ap (λ (v : NodeView). is_in_pool v.state.pool (wtxid c.args.tx)) (sym c.self.view_is) ∙ ap (is_in_pool c.self.inside.store.pool) (sym id) ∙ ap (λ p. is_in_pool p c.wtxid-id.result) (sym c.pool.ensures) ∙ sym c.contains.ensures in
    sym (ap (λ (a : Addition). a.added) (present_addition s c.args.tx unended (pooled ∙ c.if-contains.true)))

pub returns-then-contains-clause-ok : goal.returns-then-contains-clause-ok
returns-then-contains-clause-ok c =
    let s = c.args.self.now.state in
    let unended = ap (λ (v : NodeView). v.state.ended) (sym c.self.view_is) in
    let id = c.wtxid-id.ensures ∙ ap wtxid c.as_slice.ensures in
    let pooled = ap (λ (v : NodeView). is_in_pool v.state.pool (wtxid c.args.tx)) (sym c.self.view_is) ∙ ap (is_in_pool c.self.inside.store.pool) (sym id) ∙ ap (λ p. is_in_pool p c.wtxid-id.result) (sym c.pool.ensures) ∙ sym c.contains.ensures in
    sym (ap (λ (a : Addition). after_turn c.args.self.now a.turn) (present_addition s c.args.tx unended (pooled ∙ c.if-contains.true)) ∙ quiet c.args.self.now s)

pub is_full-requires-clause-held : goal.is_full-requires-clause-held
is_full-requires-clause-held c = subst (λ (v : NodeView). AreHoldings (holdings_of v.state)) (sym c.self.view_is) (are_holdings c.args.self.now.state c.requires.node.store)

pub returns-then-is_full-clause-told : goal.returns-then-is_full-clause-told
returns-then-is_full-clause-told c =
    let s = c.args.self.now.state in
    let unended = ap (λ (v : NodeView). v.state.ended) (sym c.self.view_is) in
    let id = c.wtxid-id.ensures ∙ ap wtxid c.as_slice.ensures in
    let pooled = ap (λ (v : NodeView). is_in_pool v.state.pool (wtxid c.args.tx)) (sym c.self.view_is) ∙ ap (is_in_pool c.self.inside.store.pool) (sym id) ∙ ap (λ p. is_in_pool p c.wtxid-id.result) (sym c.pool.ensures) ∙ sym c.contains.ensures in
    let fullness = ap (λ x. is_full s (transaction_of x)) (sym c.as_slice-2.ensures) ∙ sym (c.is_full.ensures s (ap (λ (v : NodeView). holdings_of v.state) (sym c.self.view_is))) in
    sym (ap (λ (a : Addition). a.added) (full_addition s c.args.tx unended (pooled ∙ c.if-contains.false) (fullness ∙ c.if-is_full.true)))

pub returns-then-is_full-clause-ok : goal.returns-then-is_full-clause-ok
returns-then-is_full-clause-ok c =
    let s = c.args.self.now.state in
    let unended = ap (λ (v : NodeView). v.state.ended) (sym c.self.view_is) in
    let id = c.wtxid-id.ensures ∙ ap wtxid c.as_slice.ensures in
    let pooled = ap (λ (v : NodeView). is_in_pool v.state.pool (wtxid c.args.tx)) (sym c.self.view_is) ∙ ap (is_in_pool c.self.inside.store.pool) (sym id) ∙ ap (λ p. is_in_pool p c.wtxid-id.result) (sym c.pool.ensures) ∙ sym c.contains.ensures in
    let fullness = ap (λ x. is_full s (transaction_of x)) (sym c.as_slice-2.ensures) ∙ sym (c.is_full.ensures s (ap (λ (v : NodeView). holdings_of v.state) (sym c.self.view_is))) in
    sym (ap (λ (a : Addition). after_turn c.args.self.now a.turn) (full_addition s c.args.tx unended (pooled ∙ c.if-contains.false) (fullness ∙ c.if-is_full.true)) ∙ quiet c.args.self.now s)

pub returns-clause-told : goal.returns-clause-told
returns-clause-told c =
    let s = c.args.self.now.state in
    let unended = ap (λ (v : NodeView). v.state.ended) (sym c.self.view_is) in
    let id = c.wtxid-id.ensures ∙ ap wtxid c.as_slice.ensures in
    let pooled = ap (λ (v : NodeView). is_in_pool v.state.pool (wtxid c.args.tx)) (sym c.self.view_is) ∙ ap (is_in_pool c.self.inside.store.pool) (sym id) ∙ ap (λ p. is_in_pool p c.wtxid-id.result) (sym c.pool.ensures) ∙ sym c.contains.ensures in
    let fullness = ap (λ x. is_full s (transaction_of x)) (sym c.as_slice-2.ensures) ∙ sym (c.is_full.ensures s (ap (λ (v : NodeView). holdings_of v.state) (sym c.self.view_is))) in
    sym (ap (λ (a : Addition). a.added) (new_addition s c.args.tx unended (pooled ∙ c.if-contains.false) (fullness ∙ c.if-is_full.false)))

pub returns-clause-ok : goal.returns-clause-ok
returns-clause-ok c =
    let s = c.args.self.now.state in
    let unended = ap (λ (v : NodeView). v.state.ended) (sym c.self.view_is) in
    let id = c.wtxid-id.ensures ∙ ap wtxid c.as_slice.ensures in
    let pooled = ap (λ (v : NodeView). is_in_pool v.state.pool (wtxid c.args.tx)) (sym c.self.view_is) ∙ ap (is_in_pool c.self.inside.store.pool) (sym id) ∙ ap (λ p. is_in_pool p c.wtxid-id.result) (sym c.pool.ensures) ∙ sym c.contains.ensures in
    let fullness = ap (λ x. is_full s (transaction_of x)) (sym c.as_slice-2.ensures) ∙ sym (c.is_full.ensures s (ap (λ (v : NodeView). holdings_of v.state) (sym c.self.view_is))) in
    c.in_ok-add_new.ensures.ok ∙ sym (ap (λ (a : Addition). after_turn c.args.self.now a.turn) (new_addition s c.args.tx unended (pooled ∙ c.if-contains.false) (fullness ∙ c.if-is_full.false)))
