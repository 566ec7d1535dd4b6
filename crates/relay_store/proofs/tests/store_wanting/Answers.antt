use Rattle.std.proofs.Common.{◌++◌, [], ◌∷◌, refl, sym, ap, ◌∙◌, subst}
use Rattle.pool_rules.specs.Pools.{AreDistinctIds}
use Rattle.pool_laws.proofs.IdLists.{one_alone}
use Rattle.relay_store.specs.Holdings.{Holdings, AreHoldings, with_wanted}
use Rattle.relay_store.specs.declared.tests.TheConstants.{ABC}
use Rattle.relay_store.proofs.Changes.{holdings}
use Rattle.relay_store.proofs.Held.{held_wanting}
use Rattle.relay_store.proofs.tests.store_wanting.Goals as goal

pub want-requires : goal.want-requires
want-requires c = subst (λ (h : Holdings). AreDistinctIds (h.wants.wanted ++ ABC ∷ [])) (sym c.new-store.ensures) (one_alone ABC)

pub returns : goal.returns
returns c =
    let is = c.in_ok-want.ensures.ok ∙ ap (λ (h : Holdings). with_wanted h (h.wants.wanted ++ ABC ∷ [])) (c.new-store.ensures ∙ ap (λ pool. holdings pool [] [] []) c.empty.ensures) in
    record { held = subst AreHoldings (sym is) (held_wanting ABC refl); none = ap (λ h. h.wants.asked) is }
