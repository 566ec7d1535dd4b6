use Rattle.std.proofs.Common.{◌++◌, [], ◌∷◌, refl, sym, ap, ◌∙◌, subst}
use Rattle.pool_rules.specs.Pools.{AreDistinctIds}
use Rattle.pool_laws.proofs.IdLists.{one_alone}
use Rattle.relay_store.specs.Holdings.{Holdings, AreHoldings, with_asked}
use Rattle.relay_store.specs.declared.tests.TheConstants.{ABC}
use Rattle.relay_store.proofs.Changes.{holdings}
use Rattle.relay_store.proofs.Held.{held_asking}
use Rattle.relay_store.proofs.tests.store_asking.Goals as goal

pub ask-requires-clause-distinct : goal.ask-requires-clause-distinct
ask-requires-clause-distinct c = subst (λ (h : Holdings). AreDistinctIds (h.wants.asked ++ ABC ∷ [])) (sym c.new-store.ensures) (one_alone ABC)

pub returns : goal.returns
returns c =
    subst AreHoldings (sym (c.in_ok-ask.ensures.ok ∙ ap (λ (h : Holdings). with_asked h (h.wants.asked ++ ABC ∷ [])) (c.new-store.ensures ∙ ap (λ pool. holdings pool [] [] []) c.empty.ensures))) (held_asking ABC refl)
