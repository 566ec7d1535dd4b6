use Rattle.std.proofs.Common.{not, filter, Ok, IsTrue, refl, sym, ap, ◌∙◌, subst}
use Rattle.node_rules.specs.Invariant.{is_phase_of}
use Rattle.pool_rules.specs.Pools.{is_listed}
use Rattle.node_rules.specs.Inventory.{on_notfound, wtxids_of}
use Rattle.node_rules.specs.State.{NodeView}
use Rattle.relay_store.specs.Holdings.{with_asked}
use Rattle.conversation.specs.Handled.{IsStep}
use Rattle.conversation.specs.contracts.conversation.Conversation.{the_view}
use Rattle.conversation.proofs.Received.{forgotten, phase_of_role}
use Rattle.conversation.proofs.conversation.Conversation.on_notfound.Goals as goal

pub end_fetching-requires : goal.end_fetching-requires
end_fetching-requires c =
    subst (λ (v : NodeView). IsTrue (is_phase_of v.state.config.role v.state.machine.phase)) (sym c.self.view_is) (phase_of_role c.args.self.now.state c.requires.node c.requires.relaying)

pub returns : goal.returns
returns c =
    subst (λ (v : NodeView). IsStep (on_notfound v.state c.args.entries.now) v c.end_fetching.new.self (Ok tt)) c.self.view_is
    (forgotten (the_view c.self.inside) c.end_fetching.new.self c.forget.new.self refl c.args.entries.now
    (c.forget.ensures ∙ ap (λ es. with_asked c.self.inside.store (filter (λ id. not (is_listed (wtxids_of es) id)) c.self.inside.store.wants.asked)) c.as_slice.ensures) c.end_fetching.ensures)
