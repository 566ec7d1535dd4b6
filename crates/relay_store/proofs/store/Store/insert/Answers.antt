use Rattle.std.proofs.Common.{[], ◌∷◌, ◌++◌, ◌+◌, sym, ap, ap₂, ◌∙◌, subst, arith}
use Rattle.id_list.specs.Entries.{ids_in}
use Rattle.pool_rules.specs.Pools.{is_listed, transaction_of, without_id}
use Rattle.relay_store.specs.Holdings.{AreHoldings}
use Rattle.relay_store.specs.Invariant.{IsCounted}
use Rattle.relay_store.proofs.Changes.{holdings}
use Rattle.relay_store.proofs.Counts.{counted_within, counted_grown-listed, counted_grown-unlisted}
use Rattle.relay_store.proofs.Insertions.{absent_kept, behind_addition}
use Rattle.relay_store.proofs.Rooms.{wants_most}
use Rattle.relay_store.proofs.store.Store.insert.Goals as goal

pub overflow_add-self : goal.overflow_add-self
overflow_add-self c =
    let few = counted_within c.self.inside.pool (ids_in c.self.inside.asked) c.self.inside.pooled c.self.invariant in
    let most = wants_most _ c.self.inside.pooled (subst AreHoldings (sym c.self.view_is) c.requires.held) c.self.invariant in
    omega (arith, few.0, most)

pub invariant_of-self-then-contains : goal.invariant_of-self-then-contains
invariant_of-self-then-contains c =
    subst (λ pool. IsCounted pool (ids_in c.self.inside.asked) (c.self.inside.pooled + 1)) (sym (c.in_ok-insert_named.ensures.pool ∙ behind_addition _ c.args.self.now c.self.view_is c.requires.held c.args.id c.args.tx c.requires.named c.requires.absent c.requires.room))
    (counted_grown-listed c.self.inside.pool (transaction_of c.args.tx) (ids_in c.self.inside.asked) c.self.inside.pooled c.self.invariant
    (absent_kept _ c.args.self.now c.self.view_is c.requires.held c.args.id c.args.tx c.requires.named c.requires.absent)
    (ap (is_listed (ids_in c.self.inside.asked)) (sym c.requires.named) ∙ sym c.contains.ensures ∙ c.if-contains.true))

pub invariant_of-self-else-contains : goal.invariant_of-self-else-contains
invariant_of-self-else-contains c =
    subst (λ pool. IsCounted pool (ids_in c.self.inside.asked) c.self.inside.pooled) (sym (c.in_ok-insert_named.ensures.pool ∙ behind_addition _ c.args.self.now c.self.view_is c.requires.held c.args.id c.args.tx c.requires.named c.requires.absent c.requires.room))
    (counted_grown-unlisted c.self.inside.pool (transaction_of c.args.tx) (ids_in c.self.inside.asked) c.self.inside.pooled c.self.invariant
    (absent_kept _ c.args.self.now c.self.view_is c.requires.held c.args.id c.args.tx c.requires.named c.requires.absent)
    (ap (is_listed (ids_in c.self.inside.asked)) (sym c.requires.named) ∙ sym c.contains.ensures ∙ c.if-contains.false))

pub returns-then-contains-clause-ok : goal.returns-then-contains-clause-ok
returns-then-contains-clause-ok c =
    let inside = c.self.inside in
    ap₂ (λ pool wanted. holdings pool wanted (ids_in inside.asked) (ids_in inside.served)) (c.in_ok-insert_named.ensures.pool ∙ behind_addition _ c.args.self.now c.self.view_is c.requires.held c.args.id c.args.tx c.requires.named c.requires.absent c.requires.room) c.remove.ensures.ids
    ∙ ap (λ h. holdings (h.pool ++ transaction_of c.args.tx ∷ []) (without_id h.wants.wanted c.args.id) h.wants.asked h.wants.served) c.self.view_is

pub returns-else-contains-clause-ok : goal.returns-else-contains-clause-ok
returns-else-contains-clause-ok c =
    let inside = c.self.inside in
    ap₂ (λ pool wanted. holdings pool wanted (ids_in inside.asked) (ids_in inside.served)) (c.in_ok-insert_named.ensures.pool ∙ behind_addition _ c.args.self.now c.self.view_is c.requires.held c.args.id c.args.tx c.requires.named c.requires.absent c.requires.room) c.remove.ensures.ids
    ∙ ap (λ h. holdings (h.pool ++ transaction_of c.args.tx ∷ []) (without_id h.wants.wanted c.args.id) h.wants.asked h.wants.served) c.self.view_is
