use Rattle.std.proofs.Common.{◌≡◌, Some, None, option_map, sym, ap, ◌∙◌}
use Rattle.id_list.specs.Entries.{entry_of_id, without_entry, ids_in}
use Rattle.pool_rules.specs.Pools.{without_id}
use Rattle.std.specs.Option.{is_some}
use Rattle.id_list.proofs.Found.{is_listed-is_some, without_entry-none, ids_in-without}
use Rattle.id_list.proofs.Changes.{entry_of_id-unplaced, entry_of_id-placed, entries-taken, is_indexed-taken}
use Rattle.id_list.proofs.list.IdList.remove.Goals as goal

pub returns-in_err-place-clause-gone : goal.returns-in_err-place-clause-gone
returns-in_err-place-clause-gone g c =
    let none = entry_of_id-unplaced c.self.inside.entries.entries c.self.inside.places c.self.inside.next c.args.id.now c.self.invariant c.in_err-place.ensures.value in
    ap (λ es. option_map (λ e. (e.0, e.1.value)) (entry_of_id es c.args.id.now)) (sym c.self.view_is)
    ∙ ap (option_map (λ e. (e.0, e.1.value))) none
    ∙ sym c.from_residual.ensures

pub returns-in_err-place-clause-rest : goal.returns-in_err-place-clause-rest
returns-in_err-place-clause-rest g c =
    let none = entry_of_id-unplaced c.self.inside.entries.entries c.self.inside.places c.self.inside.next c.args.id.now c.self.invariant c.in_err-place.ensures.value in
    sym (without_entry-none c.self.inside.entries.entries c.args.id.now (is_listed-is_some c.self.inside.entries.entries c.args.id.now ∙ ap is_some none))
    ∙ ap (λ es. without_entry es c.args.id.now) c.self.view_is

pub returns-in_err-place-clause-ids : goal.returns-in_err-place-clause-ids
returns-in_err-place-clause-ids g c =
    let none = entry_of_id-unplaced c.self.inside.entries.entries c.self.inside.places c.self.inside.next c.args.id.now c.self.invariant c.in_err-place.ensures.value in
    ap ids_in (sym (without_entry-none c.self.inside.entries.entries c.args.id.now (is_listed-is_some c.self.inside.entries.entries c.args.id.now ∙ ap is_some none)))
    ∙ ids_in-without c.self.inside.entries.entries c.args.id.now
    ∙ ap (λ es. without_id (ids_in es) c.args.id.now) c.self.view_is

-- a place without an entry
no_entry : {X : Type 0} (p : X) → None ≡ Some p → ⊥
no_entry p e = cc

pub invariant_of-self-in_err-entry : goal.invariant_of-self-in_err-entry
invariant_of-self-in_err-entry g c =
    let found = entry_of_id-placed c.self.inside.entries c.self.inside.places c.self.inside.next c.args.id.now c.in_ok-place.place c.self.invariant c.in_ok-place.ensures.value in
    absurd (no_entry found.0 (c.in_err-entry.ensures.value ∙ found.1.1))

pub returns-in_err-entry : goal.returns-in_err-entry
returns-in_err-entry g c =
    let found = entry_of_id-placed c.self.inside.entries c.self.inside.places c.self.inside.next c.args.id.now c.in_ok-place.place c.self.invariant c.in_ok-place.ensures.value in
    absurd (no_entry found.0 (c.in_err-entry.ensures.value ∙ found.1.1))

pub invariant_of-self-2 : goal.invariant_of-self-2
invariant_of-self-2 g c =
    is_indexed-taken c.self.inside.entries c.remove-2.new.self c.self.inside.places c.remove.new.self c.self.inside.next c.args.id.now c.in_ok-place.place c.self.invariant c.in_ok-place.ensures.value c.in_ok-place.ensures.updates
    c.in_ok-entry.ensures.entries c.in_ok-entry.ensures.ordered

pub returns-clause-gone : goal.returns-clause-gone
returns-clause-gone g c =
    let found = entry_of_id-placed c.self.inside.entries c.self.inside.places c.self.inside.next c.args.id.now c.in_ok-place.place c.self.invariant c.in_ok-place.ensures.value in
    ap (λ es. option_map (λ e. (e.0, e.1.value)) (entry_of_id es c.args.id.now)) (sym c.self.view_is)
    ∙ ap (option_map (λ e. (e.0, e.1.value))) found.1.0
    ∙ sym (ap (option_map (λ x. (c.in_ok-place.place, x.value))) (c.in_ok-entry.ensures.value ∙ found.1.1))

pub returns-clause-rest : goal.returns-clause-rest
returns-clause-rest g c =
    entries-taken c.self.inside.entries c.remove-2.new.self c.self.inside.places c.self.inside.next c.args.id.now c.in_ok-place.place c.self.invariant c.in_ok-place.ensures.value c.in_ok-entry.ensures.entries
    ∙ ap (λ es. without_entry es c.args.id.now) c.self.view_is

pub returns-clause-ids : goal.returns-clause-ids
returns-clause-ids g c =
    ap ids_in (entries-taken c.self.inside.entries c.remove-2.new.self c.self.inside.places c.self.inside.next c.args.id.now c.in_ok-place.place c.self.invariant c.in_ok-place.ensures.value c.in_ok-entry.ensures.entries)
    ∙ ids_in-without c.self.inside.entries.entries c.args.id.now
    ∙ ap (λ es. without_id (ids_in es) c.args.id.now) c.self.view_is
