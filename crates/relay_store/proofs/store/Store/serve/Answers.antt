use Rattle.std.proofs.Common.{[], ◌∷◌, ◌++◌, refl, ap, ◌∙◌}
use Rattle.id_list.specs.Entries.{ids_in}
use Rattle.relay_store.specs.Holdings.{after_serving, with_served}
use Rattle.relay_store.proofs.Changes.{holdings}
use Rattle.relay_store.proofs.store.Store.serve.Goals as goal

pub returns-then-not-may_serve-clause-ok : goal.returns-then-not-may_serve-clause-ok
unfolding after_serving
returns-then-not-may_serve-clause-ok c = refl

pub returns-clause-ok : goal.returns-clause-ok
unfolding after_serving
returns-clause-ok c =
    let inside = c.self.inside in
    ap (holdings inside.pool (ids_in inside.wanted) (ids_in inside.asked)) c.in_ok-push.ensures.ids ∙ ap (λ h. with_served h (h.wants.served ++ c.args.entry.now.id ∷ [])) c.self.view_is
