use Rattle.std.proofs.Common.{◌≡◌, Ok, Err, sym, ap, ◌∙◌, subst}
use Rattle.std.proofs.lemmas.Result.{err_from_is_err_and}
use Rattle.node_rules.specs.Inventory.{without_announced}
use Rattle.node_rules.specs.State.{NodeView}
use Rattle.conversation.specs.Handled.{IsStep}
use Rattle.conversation.specs.Inventories.{want_turn}
use Rattle.conversation.specs.contracts.conversation.Conversation.{the_view}
use Rattle.conversation.proofs.News.{inv_stopped, inv_taken}
use Rattle.conversation.proofs.conversation.Conversation.on_inv.Goals as goal

pub returns-in_err-want_unknown : goal.returns-in_err-want_unknown
returns-in_err-want_unknown c =
    let p = err_from_is_err_and c.from_residual.result c.from_residual.ensures.1 in
    let same : c.from_residual.result ≡ Err c.in_err-want_unknown.field-0.0 = cc in
    rw same
    (inv_stopped c.args.self.now c.want_unknown.new.self c.args.entries.now c.in_err-want_unknown.field-0.0 c.want_unknown.ensures.unended
    (subst (λ es. IsStep (want_turn c.args.self.now.state es) c.args.self.now c.want_unknown.new.self (Err c.in_err-want_unknown.field-0.0)) c.as_slice.ensures c.in_err-want_unknown.ensures.step))

pub returns : goal.returns
returns c =
    let v : NodeView = the_view c.self.inside in
    inv_taken c.args.self.now v c.args.entries.now c.remove_announced.new.set
    (subst (λ w. IsStep (want_turn c.args.self.now.state c.args.entries.now) c.args.self.now w (Ok tt)) (sym c.self.view_is)
    (subst (λ es. IsStep (want_turn c.args.self.now.state es) c.args.self.now c.want_unknown.new.self (Ok tt)) c.as_slice.ensures c.in_ok-want_unknown.ensures.step))
    (c.remove_announced.ensures ∙ ap (without_announced c.self.inside.set) c.as_slice-2.ensures)
