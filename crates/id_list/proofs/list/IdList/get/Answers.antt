use Rattle.std.proofs.Common.{option_map, sym, ap, ◌∙◌}
use Rattle.id_list.specs.Entries.{value_of_id}
use Rattle.id_list.proofs.Changes.{entry_of_id-unplaced, entry_of_id-placed}
use Rattle.id_list.proofs.list.IdList.get.Goals as goal

pub returns-in_err-place : goal.returns-in_err-place
returns-in_err-place g c =
    let none = entry_of_id-unplaced c.self.inside.entries.entries c.self.inside.places c.self.inside.next c.args.id.now c.self.invariant c.in_err-place.ensures.value in
    c.from_residual.ensures
    ∙ sym (ap (option_map (λ e. e.1.value)) none)
    ∙ ap (λ es. value_of_id es c.args.id.now) c.self.view_is

pub returns-in_err-entry : goal.returns-in_err-entry
returns-in_err-entry g c =
    let found = entry_of_id-placed c.self.inside.entries c.self.inside.places c.self.inside.next c.args.id.now c.in_ok-place.place.now c.self.invariant c.in_ok-place.ensures.value in
    let got = sym c.in_err-entry.was ∙ c.copied.ensures ∙ c.get-2.ensures.value ∙ found.1.1 in
    absurd (cc got)

pub returns : goal.returns
returns g c =
    let found = entry_of_id-placed c.self.inside.entries c.self.inside.places c.self.inside.next c.args.id.now c.in_ok-place.place.now c.self.invariant c.in_ok-place.ensures.value in
    let got = sym c.in_ok-entry.was ∙ c.copied.ensures ∙ c.get-2.ensures.value ∙ found.1.1 in
    ap (option_map (λ x. x.value)) got
    ∙ sym (ap (option_map (λ e. e.1.value)) found.1.0)
    ∙ ap (λ es. value_of_id es c.args.id.now) c.self.view_is
