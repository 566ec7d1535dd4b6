use Rattle.std.proofs.Common.{◌≡◌, [], ◌∷◌, ◌++◌, sym, ap, ap₂, ◌∙◌, subst}
use Rattle.id_list.specs.Entries.{ids_in}
use Rattle.pool_rules.specs.Pools.{insertion_of, transaction_of, without_id}
use Rattle.relay_store.specs.Invariant.{IsCounted}
use Rattle.relay_store.proofs.Changes.{holdings}
use Rattle.relay_store.proofs.Counts.{counted_gained}
use Rattle.relay_store.proofs.Insertions.{absent_kept, behind_gain}
use Rattle.relay_store.proofs.store.Store.gain.Goals as goal

grown : (c : goal.After-remove) → c.insert_named.new.self ≡ c.self.inside.pool ++ transaction_of c.args.tx.now ∷ []
grown c =
    c.in_ok-insert_named.ensures.pool
    ∙ ap (λ bytes. (insertion_of c.self.inside.pool bytes).pool) (c.from_vec-bytes.ensures ∙ c.in_ok-from_slice.ensures.items)
    ∙ behind_gain _ c.args.self.now c.self.view_is c.requires.held c.args.id c.args.tx.now c.requires.named c.requires.absent c.requires.asked c.requires.room

pub invariant_of-self-2 : goal.invariant_of-self-2
invariant_of-self-2 c =
    subst (λ pool. IsCounted pool (ids_in c.remove.new.self) c.self.inside.pooled) (sym (grown c))
    (counted_gained c.self.inside.pool (transaction_of c.args.tx.now) (ids_in c.self.inside.asked) c.self.inside.pooled c.self.invariant
    (absent_kept _ c.args.self.now c.self.view_is c.requires.held c.args.id c.args.tx.now c.requires.named c.requires.absent)
    (ids_in c.remove.new.self) (c.remove.ensures.ids ∙ ap (without_id (ids_in c.self.inside.asked)) c.requires.named))

pub returns-clause-ok : goal.returns-clause-ok
returns-clause-ok c =
    let inside = c.self.inside in
    ap₂ (λ pool asked. holdings pool (ids_in inside.wanted) asked (ids_in inside.served)) (grown c) c.remove.ensures.ids
    ∙ ap (λ h. holdings (h.pool ++ transaction_of c.args.tx.now ∷ []) h.wants.wanted (without_id h.wants.asked c.args.id) h.wants.served) c.self.view_is
