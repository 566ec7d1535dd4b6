use Rattle.std.proofs.Common.{Ok, Err, IsTrue, refl, sym, ap, subst}
use Rattle.std.proofs.lemmas.Result.{err_from_is_err_and}
use Rattle.node_rules.specs.Invariant.{is_phase_of}
use Rattle.node_rules.specs.Inventory.{on_tx}
use Rattle.node_rules.specs.State.{NodeView}
use Rattle.node_rules.specs.declared.end.End.TheVariants as end
use Rattle.relay_store.specs.Holdings.{Holdings, IsReceiptAt}
use Rattle.conversation.specs.Handled.{IsStep}
use Rattle.conversation.specs.contracts.conversation.Conversation.{the_view}
use Rattle.conversation.specs.declared.stop.Stop.TheVariants as stop
use Rattle.conversation.proofs.Received.{full, phase_of_role, received, unasked}
use Rattle.conversation.proofs.Relaying.{starved, starved_holding, with_holdings}
use Rattle.conversation.proofs.conversation.Conversation.on_tx.Goals as goal

pub returns-in_err-receive : goal.returns-in_err-receive
returns-in_err-receive c =
    let p = err_from_is_err_and c.from_residual.result c.from_residual.ensures.1 in
    rw (p.1, p.2)
    (subst (λ (v : NodeView). IsStep (on_tx v.state c.args.tx.now) v (with_holdings (the_view c.self.inside) c.receive.new.self) (Err stop.OutOfMemory)) c.self.view_is
    (starved (on_tx (the_view c.self.inside).state c.args.tx.now) (the_view c.self.inside) _ (starved_holding (the_view c.self.inside) c.receive.new.self (ap (λ (h : Holdings). h.pool) c.in_err-receive.ensures.err))))

pub end_fetching-requires : goal.end_fetching-requires
end_fetching-requires c =
    subst (λ (v : NodeView). IsTrue (is_phase_of v.state.config.role v.state.machine.phase)) (sym c.self.view_is) (phase_of_role c.args.self.now.state c.requires.node c.requires.relaying)

pub returns-in-Unasked : goal.returns-in-Unasked
returns-in-Unasked c =
    let v : NodeView = the_view c.self.inside in
    subst (λ (u : NodeView). IsStep (on_tx u.state c.args.tx.now) u (with_holdings v c.receive.new.self) (Ok tt)) c.self.view_is
    (unasked v v c.receive.new.self refl c.args.tx.now (subst (λ r. IsReceiptAt r c.receive.new.self v.state c.args.tx.now) c.in-Unasked.is (c.in_ok-receive.ensures.ok v.state refl)))

pub returns-in-Full : goal.returns-in-Full
returns-in-Full c =
    let v : NodeView = the_view c.self.inside in
    subst (λ (u : NodeView). IsStep (on_tx u.state c.args.tx.now) u (with_holdings v c.receive.new.self) (Err (stop.Ended end.PoolFull))) c.self.view_is
    (full v v c.receive.new.self refl c.args.tx.now (subst (λ r. IsReceiptAt r c.receive.new.self v.state c.args.tx.now) c.in-Full.is (c.in_ok-receive.ensures.ok v.state refl)))

pub returns-in-Taken : goal.returns-in-Taken
returns-in-Taken c =
    let v : NodeView = the_view c.self.inside in
    subst (λ (u : NodeView). IsStep (on_tx u.state c.args.tx.now) u c.end_fetching.new.self (Ok tt)) c.self.view_is
    (received v c.end_fetching.new.self c.receive.new.self refl c.args.tx.now (subst (λ r. IsReceiptAt r c.receive.new.self v.state c.args.tx.now) c.in-Taken.is (c.in_ok-receive.ensures.ok v.state refl)) c.end_fetching.ensures)
