use Rattle.std.proofs.Common.{◌≡◌, ◌+◌, ◌++◌, nat_le, false, length, Ok, Err, refl, sym, ap, ◌∙◌, subst}
use Rattle.std.proofs.lemmas.Result.{err_from_is_err_and}
use Rattle.std.specs.List.{AllByRecursion}
use Rattle.wire_rules.specs.Limits.{IsMessage}
use Rattle.pool_rules.specs.Pools.{AreDistinctIds, is_in_pool}
use Rattle.pool_rules.specs.declared.limits.TheConstants.{POOL_LIMIT}
use Rattle.node_rules.specs.Invariant.{IsStore}
use Rattle.node_rules.specs.State.{NodeView, taken_room}
use Rattle.node_rules.specs.Turns.{getdata_of}
use Rattle.node_rules.specs.declared.config.Role.TheVariants as role
use Rattle.node_rules.specs.declared.end.End.TheVariants as end
use Rattle.relay_store.specs.Holdings.{AreHoldings, holdings_of}
use Rattle.conversation.specs.Handled.{IsStep}
use Rattle.conversation.specs.Inventories.{want_turn}
use Rattle.conversation.specs.contracts.conversation.Conversation.{the_view}
use Rattle.conversation.specs.declared.stop.Stop.TheVariants as stop
use Rattle.conversation.proofs.News.{are_holdings, asks-sendable, asks_more, fresh_absent, fresh_asked, fresh_wanted, turn_full, wants_more}
use Rattle.conversation.proofs.Relaying.{refused, starved, starved_holding, with_holdings}
use Rattle.conversation.proofs.conversation.Conversation.want_unknown.Goals as goal

pub returns-in_err-ids-clause-step : goal.returns-in_err-ids-clause-step
returns-in_err-ids-clause-step c =
    let p = err_from_is_err_and c.from_residual.result c.from_residual.ensures.1 in
    rw (p.1, p.2) (starved (want_turn c.args.self.now.state c.args.entries.now) c.args.self.now c.args.self.now (record { config = refl; pool = refl; outbox = refl }))

pub has_room-requires : goal.has_room-requires
has_room-requires c = subst (λ (v : NodeView). AreHoldings (holdings_of v.state)) (sym c.self.view_is) (are_holdings c.args.self.now.state c.requires.node.store)

pub returns-then-not-has_room-clause-step : goal.returns-then-not-has_room-clause-step
returns-then-not-has_room-clause-step c =
    let s = c.args.self.now.state in
    let held = ap (λ (v : NodeView). holdings_of v.state) (sym c.self.view_is) in
    refused (want_turn s c.args.entries.now) c.args.self.now c.args.self.now end.PoolFull refl
    (turn_full s c.args.entries.now c.as_slice.result.now (c.as_slice.ensures ∙ c.in_ok-ids.ensures s held) (sym (c.has_room.ensures s held) ∙ c.if-not-has_room.true))

pub want-requires : goal.want-requires
want-requires c =
    let v : NodeView = the_view c.self.inside in
    let store = subst (λ (v : NodeView). IsStore v.state) (sym c.self.view_is) c.requires.node.store in
    subst (λ ids. AreDistinctIds (v.state.wants.wanted ++ ids)) (sym (c.as_slice-in-Opener.ensures ∙ c.in_ok-ids.ensures v.state refl)) (fresh_wanted v.state store c.args.entries.now)

pub returns-in_err-want-in-Opener-clause-step : goal.returns-in_err-want-in-Opener-clause-step
returns-in_err-want-in-Opener-clause-step c =
    let p = err_from_is_err_and c.from_residual-in_err-want-in-Opener.result c.from_residual-in_err-want-in-Opener.ensures.1 in
    let v : NodeView = the_view c.self.inside in
    rw (p.1, p.2)
    (subst (λ (u : NodeView). IsStep (want_turn u.state c.args.entries.now) u (with_holdings v c.want.new.self) (Err stop.OutOfMemory)) c.self.view_is
    (starved (want_turn v.state c.args.entries.now) v (with_holdings v c.want.new.self) (starved_holding v c.want.new.self c.want.ensures.pool)))

pub returns-in-Opener-clause-step : goal.returns-in-Opener-clause-step
returns-in-Opener-clause-step c =
    let v : NodeView = the_view c.self.inside in
    subst (λ (u : NodeView). IsStep (want_turn u.state c.args.entries.now) u (with_holdings v c.want.new.self) (Ok tt)) c.self.view_is
    (wants_more v c.args.entries.now c.as_slice-in-Opener.result.now c.want.new.self refl (c.as_slice-in-Opener.ensures ∙ c.in_ok-ids.ensures v.state refl) c.in-Opener.is
    (ap (λ ids. nat_le (taken_room v.state + length ids) POOL_LIMIT) (c.as_slice-in-Opener.ensures ∙ sym c.as_slice.ensures) ∙ sym (c.has_room.ensures v.state refl) ∙ c.if-not-has_room.false)
    c.in_ok-want-in-Opener.ensures.ok)

pub request-requires-clause-distinct : goal.request-requires-clause-distinct
request-requires-clause-distinct c =
    let s = c.args.self.now.state in
    let held = ap (λ (v : NodeView). holdings_of v.state) (sym c.self.view_is) in
    subst (λ ids. AreDistinctIds (s.wants.asked ++ ids)) (sym (c.as_slice-in-Accepter.ensures ∙ c.in_ok-ids.ensures s held)) (fresh_asked s c.requires.node.store c.args.entries.now)

pub request-requires-clause-absent : goal.request-requires-clause-absent
request-requires-clause-absent c =
    let s = c.args.self.now.state in
    let held = ap (λ (v : NodeView). holdings_of v.state) (sym c.self.view_is) in
    subst (λ ids. AllByRecursion (λ id. is_in_pool s.pool id ≡ false) ids) (sym (c.as_slice-in-Accepter.ensures ∙ c.in_ok-ids.ensures s held)) (fresh_absent s c.requires.node.store c.args.entries.now)

pub request-requires-clause-sendable : goal.request-requires-clause-sendable
request-requires-clause-sendable c =
    let s = c.args.self.now.state in
    let held = ap (λ (v : NodeView). holdings_of v.state) (sym c.self.view_is) in
    subst (λ ids. AllByRecursion IsMessage (getdata_of ids)) (sym (c.as_slice-in-Accepter.ensures ∙ c.in_ok-ids.ensures s held))
    (asks-sendable s c.args.entries.now c.requires.node c.requires.relaying c.requires.message (subst (λ (v : NodeView). v.state.config.role ≡ role.Accepter) c.self.view_is c.in-Accepter.is)
    (ap (λ ids. nat_le (taken_room s + length ids) POOL_LIMIT) (sym (c.as_slice.ensures ∙ c.in_ok-ids.ensures s held)) ∙ sym (c.has_room.ensures s held) ∙ c.if-not-has_room.false))

pub returns-in_err-request-in-Accepter-clause-step : goal.returns-in_err-request-in-Accepter-clause-step
returns-in_err-request-in-Accepter-clause-step c =
    let p = err_from_is_err_and c.from_residual-in_err-request-in-Accepter.result c.from_residual-in_err-request-in-Accepter.ensures.1 in
    rw (p.1, p.2) (starved (want_turn c.args.self.now.state c.args.entries.now) c.args.self.now c.request.new.self c.in_err-request-in-Accepter.ensures.err)

pub returns-clause-step : goal.returns-clause-step
returns-clause-step c =
    let s = c.args.self.now.state in
    let held = ap (λ (v : NodeView). holdings_of v.state) (sym c.self.view_is) in
    asks_more c.args.self.now c.request.new.self c.args.entries.now c.as_slice-in-Accepter.result.now (ap (λ (v : NodeView). v.state.ended) (sym c.self.view_is)) (c.as_slice-in-Accepter.ensures ∙ c.in_ok-ids.ensures s held)
    (subst (λ (v : NodeView). v.state.config.role ≡ role.Accepter) c.self.view_is c.in-Accepter.is)
    (ap (λ ids. nat_le (taken_room s + length ids) POOL_LIMIT) (c.as_slice-in-Accepter.ensures ∙ sym c.as_slice.ensures) ∙ sym (c.has_room.ensures s held) ∙ c.if-not-has_room.false)
    c.in_ok-request-in-Accepter.ensures.ok

pub returns-in_err-ids-clause-unended : goal.returns-in_err-ids-clause-unended
returns-in_err-ids-clause-unended c = ap (λ (v : NodeView). v.state.ended) (sym c.self.view_is)

pub returns-then-not-has_room-clause-unended : goal.returns-then-not-has_room-clause-unended
returns-then-not-has_room-clause-unended c = ap (λ (v : NodeView). v.state.ended) (sym c.self.view_is)

pub returns-in_err-want-in-Opener-clause-unended : goal.returns-in_err-want-in-Opener-clause-unended
returns-in_err-want-in-Opener-clause-unended c = ap (λ (v : NodeView). v.state.ended) (sym c.self.view_is)

pub returns-in-Opener-clause-unended : goal.returns-in-Opener-clause-unended
returns-in-Opener-clause-unended c = ap (λ (v : NodeView). v.state.ended) (sym c.self.view_is)

pub returns-in_err-request-in-Accepter-clause-unended : goal.returns-in_err-request-in-Accepter-clause-unended
returns-in_err-request-in-Accepter-clause-unended c = ap (λ (v : NodeView). v.state.ended) (sym c.self.view_is)

pub returns-clause-unended : goal.returns-clause-unended
returns-clause-unended c = ap (λ (v : NodeView). v.state.ended) (sym c.self.view_is)
