use Rattle.std.proofs.Common.{◌≡◌, ◌<◌, false, length, sym, ap, ◌∙◌, subst}
use Rattle.pool_rules.specs.Pools.{is_listed, transaction_of}
use Rattle.pool_rules.specs.Snapshots.{Member, ids_of, without_member}
use Rattle.pool_rules.specs.declared.limits.TheConstants.{POOL_LIMIT}
use Rattle.pool_laws.proofs.Ids.{short_id-nonzero}
use Rattle.node_rules.specs.State.{NodeView, open_wants}
use Rattle.relay_store.specs.Holdings.{AreHoldings, Holdings, holdings_of}
use Rattle.conversation.specs.contracts.conversation.Conversation.{the_view}
use Rattle.conversation.proofs.Adding.{set_absent, set_room, without_last}
use Rattle.conversation.proofs.News.{are_holdings, with_set}
use Rattle.conversation.proofs.Relaying.{with_holdings}
use Rattle.conversation.proofs.conversation.Conversation.add_member.Goals as goal

pub add-requires-clause-absent : goal.add-requires-clause-absent
add-requires-clause-absent c =
    subst (λ (v : NodeView). is_listed (ids_of v.state.set) c.args.id ≡ false) (sym c.self.view_is) (set_absent c.args.self.now.state c.requires.node c.args.id c.requires.absent)

pub add-requires-clause-room : goal.add-requires-clause-room
add-requires-clause-room c =
    let s = c.args.self.now.state in
    subst (λ (v : NodeView). length v.state.set < POOL_LIMIT) (sym c.self.view_is)
    (set_room s c.requires.node c.args.id (transaction_of c.args.tx) (subst (λ x. is_listed (open_wants s) x ≡ false) c.requires.named c.requires.unknown) c.requires.room)

pub add-requires-clause-nonzero : goal.add-requires-clause-nonzero
add-requires-clause-nonzero c = subst (λ n. 0 < n) (sym c.short_id.ensures) (short_id-nonzero _ _)

pub insert-requires-clause-held : goal.insert-requires-clause-held
insert-requires-clause-held c = subst (λ (v : NodeView). AreHoldings (holdings_of v.state)) (sym c.self.view_is) (are_holdings c.args.self.now.state c.requires.node.store)

pub returns-in_default-clause-err : goal.returns-in_default-clause-err
returns-in_default-clause-err c =
    let v : NodeView = the_view c.self.inside in
    let m : Member = record { id = c.args.id; short = c.short_id.result } in
    let absent = subst (λ (v : NodeView). is_listed (ids_of v.state.set) c.args.id ≡ false) (sym c.self.view_is) (set_absent c.args.self.now.state c.requires.node c.args.id c.requires.absent) in
    ap (with_set (with_holdings v c.insert.new.self)) (c.remove.ensures.rest ∙ ap (λ ms. without_member ms c.args.id) c.in_ok-add.ensures.ok ∙ without_last c.self.inside.set m absent)
    ∙ ap (λ (h : Holdings). with_set (with_holdings v h) c.self.inside.set) c.in_default.ensures.err
    ∙ c.self.view_is
