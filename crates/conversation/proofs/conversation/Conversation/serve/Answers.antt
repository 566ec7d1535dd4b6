use Rattle.std.proofs.Common.{◌≡◌, [], ◌∷◌, option_map, sym, ap, ◌∙◌, subst}
use Rattle.std.proofs.lemmas.Result.{err_from_is_err_and}
use Rattle.pool_rules.specs.Pools.{IsPool, bytes_of_id}
use Rattle.node_rules.specs.State.{NodeView}
use Rattle.outbox.specs.Waiting.{Waiting}
use Rattle.relay_store.specs.Holdings.{Holdings}
use Rattle.conversation.specs.Handled.{IsStarved}
use Rattle.conversation.specs.Inventories.{missing_in, view_serving}
use Rattle.conversation.specs.contracts.conversation.Conversation.{the_view}
use Rattle.conversation.proofs.Relaying.{with_holdings}
use Rattle.conversation.proofs.Serving.{after_serving-pool, found_sized, passed_view, servable-found, served-missing, served_view, starved_view, unserved-missing}
use Rattle.conversation.proofs.conversation.Conversation.serve.Goals as goal

pub returns-then-not-branch-clause-told : goal.returns-then-not-branch-clause-told
returns-then-not-branch-clause-told c =
    let v : NodeView = the_view c.self.inside in
    let e = c.args.entry.now in
    subst (λ (v : NodeView). missing_in v.state (e ∷ []) ≡ e ∷ []) c.self.view_is (unserved-missing v.state e (sym c.in_ok-serve.ensures.told ∙ c.if-not-branch.true))

pub returns-then-not-branch-clause-ok : goal.returns-then-not-branch-clause-ok
returns-then-not-branch-clause-ok c =
    let v : NodeView = the_view c.self.inside in
    let e = c.args.entry.now in
    subst (λ (u : NodeView). with_holdings v c.serve.new.self ≡ view_serving u (e ∷ [])) c.self.view_is
    (passed_view v e c.in_ok-serve.field-0 c.serve.new.self c.in_ok-serve.ensures.ok c.if-not-branch.true (sym c.in_ok-serve.ensures.told ∙ c.if-not-branch.true))

pub returns-in_default-clause-told : goal.returns-in_default-clause-told
returns-in_default-clause-told c =
    let v : NodeView = the_view c.self.inside in
    let e = c.args.entry.now in
    let pool = c.pool.ensures ∙ ap (λ (h : Holdings). h.pool) c.in_ok-serve.ensures.ok ∙ after_serving-pool c.in_ok-serve.field-0 c.self.inside.store e in
    let none = ap (λ p. bytes_of_id p e.id) (sym pool) ∙ sym c.get.ensures ∙ ap (option_map (λ tx. tx.now)) c.in_default.is in
    absurd (servable-found v.state e (sym c.in_ok-serve.ensures.told ∙ c.if-not-branch.false) none)

pub returns-in_default-clause-ok : goal.returns-in_default-clause-ok
returns-in_default-clause-ok c =
    let v : NodeView = the_view c.self.inside in
    let e = c.args.entry.now in
    let pool = c.pool.ensures ∙ ap (λ (h : Holdings). h.pool) c.in_ok-serve.ensures.ok ∙ after_serving-pool c.in_ok-serve.field-0 c.self.inside.store e in
    let none = ap (λ p. bytes_of_id p e.id) (sym pool) ∙ sym c.get.ensures ∙ ap (option_map (λ tx. tx.now)) c.in_default.is in
    absurd (servable-found v.state e (sym c.in_ok-serve.ensures.told ∙ c.if-not-branch.false) none)

pub push_tx-requires : goal.push_tx-requires
push_tx-requires c =
    let v : NodeView = the_view c.self.inside in
    let e = c.args.entry.now in
    let pool = c.pool.ensures ∙ ap (λ (h : Holdings). h.pool) c.in_ok-serve.ensures.ok ∙ after_serving-pool c.in_ok-serve.field-0 c.self.inside.store e in
    let found = ap (λ p. bytes_of_id p e.id) (sym pool) ∙ sym c.get.ensures ∙ ap (option_map (λ tx. tx.now)) c.in-Some.is in
    found_sized v.state.pool e.id c.in-Some.tx.now (subst (λ (v : NodeView). IsPool v.state.pool) (sym c.self.view_is) c.requires.pool).each found

pub returns-in_err-push_tx-clause-err : goal.returns-in_err-push_tx-clause-err
returns-in_err-push_tx-clause-err c =
    let v : NodeView = the_view c.self.inside in
    let e = c.args.entry.now in
    let p = err_from_is_err_and c.from_residual-in_err-push_tx.result c.from_residual-in_err-push_tx.ensures.1 in
    rw p.1
    (subst (λ (u : NodeView). IsStarved u (record (with_holdings v c.serve.new.self) { outbox = c.push_tx.new.self.bytes })) c.self.view_is
    (starved_view v e c.in_ok-serve.field-0 c.serve.new.self c.in_ok-serve.ensures.ok c.push_tx.new.self.bytes (ap (λ (w : Waiting). w.bytes) c.in_err-push_tx.ensures.err)))

pub returns-clause-told : goal.returns-clause-told
returns-clause-told c =
    let v : NodeView = the_view c.self.inside in
    let e = c.args.entry.now in
    let pool = c.pool.ensures ∙ ap (λ (h : Holdings). h.pool) c.in_ok-serve.ensures.ok ∙ after_serving-pool c.in_ok-serve.field-0 c.self.inside.store e in
    let found = ap (λ p. bytes_of_id p e.id) (sym pool) ∙ sym c.get.ensures ∙ ap (option_map (λ tx. tx.now)) c.in-Some.is in
    subst (λ (v : NodeView). missing_in v.state (e ∷ []) ≡ []) c.self.view_is (served-missing v.state e c.in-Some.tx.now (sym c.in_ok-serve.ensures.told ∙ c.if-not-branch.false) found)

pub returns-clause-ok : goal.returns-clause-ok
returns-clause-ok c =
    let v : NodeView = the_view c.self.inside in
    let e = c.args.entry.now in
    let pool = c.pool.ensures ∙ ap (λ (h : Holdings). h.pool) c.in_ok-serve.ensures.ok ∙ after_serving-pool c.in_ok-serve.field-0 c.self.inside.store e in
    let found = ap (λ p. bytes_of_id p e.id) (sym pool) ∙ sym c.get.ensures ∙ ap (option_map (λ tx. tx.now)) c.in-Some.is in
    subst (λ (u : NodeView). record (with_holdings v c.serve.new.self) { outbox = c.push_tx.new.self.bytes } ≡ view_serving u (e ∷ [])) c.self.view_is
    (served_view v e c.in_ok-serve.field-0 c.serve.new.self c.in_ok-serve.ensures.ok c.in-Some.tx.now c.push_tx.new.self c.self.inside.outbox.magic
    c.if-not-branch.false (sym c.in_ok-serve.ensures.told ∙ c.if-not-branch.false) found c.self.invariant.1 c.in_ok-push_tx.ensures.ok)
