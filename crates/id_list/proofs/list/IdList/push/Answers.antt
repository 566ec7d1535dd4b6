use Rattle.std.proofs.Common.{◌≡◌, ◌++◌, ◌∷◌, [], false, sym, ap, subst, ◌∙◌}
use Rattle.std.proofs.lemmas.List.{map-append}
use Rattle.pool_rules.specs.Pools.{is_listed}
use Rattle.id_list.specs.Entries.{ids_in}
use Rattle.id_list.proofs.Changes.{entries-put, is_indexed-put, is_indexed-undone}
use Rattle.id_list.proofs.list.IdList.push.Goals as goal

pub invariant_of-self-in-Ok : goal.invariant_of-self-in-Ok
invariant_of-self-in-Ok g c =
    is_indexed-put c.self.inside.entries c.insert-2.new.self c.self.inside.places c.insert.new.self c.self.inside.next (record { id = c.args.id; value = c.args.value }) c.self.invariant
    (subst (λ es. is_listed (ids_in es) c.args.id ≡ false) (sym c.self.view_is) c.requires) c.in_ok-insert.ensures.updates c.in-Ok.ensures.entries c.in-Ok.ensures.ordered

pub invariant_of-self-in-Err : goal.invariant_of-self-in-Err
invariant_of-self-in-Err g c =
    rw c.in-Err.ensures.err
    (is_indexed-undone c.self.inside.entries.entries c.self.inside.places c.insert.new.self c.remove.new.self c.self.inside.next c.args.id c.self.inside.next c.self.invariant
    (subst (λ es. is_listed (ids_in es) c.args.id ≡ false) (sym c.self.view_is) c.requires) c.in_ok-insert.ensures.updates c.remove.ensures.updates)

pub returns-in-Ok-clause-ok : goal.returns-in-Ok-clause-ok
returns-in-Ok-clause-ok g c =
    entries-put c.self.inside.entries c.insert-2.new.self c.self.inside.places c.self.inside.next (record { id = c.args.id; value = c.args.value }) c.self.invariant c.in-Ok.ensures.entries
    ∙ ap (λ es. es ++ (c.self.inside.next, record { id = c.args.id; value = c.args.value }) ∷ []) c.self.view_is

pub returns-in-Ok-clause-ids : goal.returns-in-Ok-clause-ids
returns-in-Ok-clause-ids g c =
    ap ids_in (entries-put c.self.inside.entries c.insert-2.new.self c.self.inside.places c.self.inside.next (record { id = c.args.id; value = c.args.value }) c.self.invariant c.in-Ok.ensures.entries)
    ∙ map-append (λ e. e.1.id) c.self.inside.entries.entries ((c.self.inside.next, record { id = c.args.id; value = c.args.value }) ∷ [])
    ∙ ap (λ es. ids_in es ++ c.args.id ∷ []) c.self.view_is
