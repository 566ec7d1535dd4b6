use Rattle.std.proofs.Common.{◌≡◌, ◌==◌, ℕ, Some, None, option_map, sym, ap, ◌∙◌}
use Rattle.std.specs.Option.{option_copied}
use Rattle.std.proofs.lemmas.Bool.{ne_eqb}
use Rattle.id_list.specs.declared.list.Entry.{Entry}
use Rattle.pool_rules.specs.Snapshots.{id_of_short}
use Rattle.pool_laws.proofs.Singles.{id_of_short-crowded}
use Rattle.recon_set.specs.Members.{members_of}
use Rattle.recon_set.proofs.Entries.{found_entry}
use Rattle.recon_set.proofs.Kept.{single-some, single-none, is_lone-group}
use Rattle.recon_set.proofs.members.Members.by_short.Goals as goal

pub returns-in_err-group : goal.returns-in_err-group
returns-in_err-group c =
    let none = sym c.in_err-group.was ∙ c.copied.ensures ∙ c.get.ensures.value ∙ c.self.invariant.grouped c.args.short in
    c.from_residual.ensures
    ∙ sym (id_of_short-crowded c.args.short (members_of c.self.inside.list) (single-none c.self.inside.list c.args.short none))
    ∙ ap (λ ms. id_of_short ms c.args.short) c.self.view_is

pub returns-then-group-ne1 : goal.returns-then-group-ne1
returns-then-group-ne1 c =
    let some = sym c.in_ok-group.was ∙ c.copied.ensures ∙ c.get.ensures.value ∙ c.self.invariant.grouped c.args.short in
    sym
    (id_of_short-crowded c.args.short (members_of c.self.inside.list)
    (single-some c.self.inside.list c.args.short c.in_ok-group.group some ∙ ne_eqb c.in_ok-group.group.count 1 c.if-group-ne1.true))
    ∙ ap (λ ms. id_of_short ms c.args.short) c.self.view_is

-- an entry that is and isn't there
no_entry : (x : Entry ℕ) → None ≡ Some x → ⊥
no_entry x e = cc

pub returns-in_err-entry : goal.returns-in_err-entry
returns-in_err-entry c =
    let some = sym c.in_ok-group.was ∙ c.copied.ensures ∙ c.get.ensures.value ∙ c.self.invariant.grouped c.args.short in
    let it = is_lone-group c.self.inside.list c.args.short c.in_ok-group.group some c.if-group-ne1.false in
    let found = found_entry (λ e. e.0 ≡ c.in_ok-group.group.places → option_copied c.at.result ≡ Some e.1) (λ e. e.1.value == c.args.short) c.self.inside.list it.0 c.at.ensures.each it.1.found it.1.placed in
    absurd (no_entry it.0.1 (sym c.in_err-entry.was ∙ c.copied-2.ensures ∙ found))

pub returns : goal.returns
returns c =
    let some = sym c.in_ok-group.was ∙ c.copied.ensures ∙ c.get.ensures.value ∙ c.self.invariant.grouped c.args.short in
    let it = is_lone-group c.self.inside.list c.args.short c.in_ok-group.group some c.if-group-ne1.false in
    let found = found_entry (λ e. e.0 ≡ c.in_ok-group.group.places → option_copied c.at.result ≡ Some e.1) (λ e. e.1.value == c.args.short) c.self.inside.list it.0 c.at.ensures.each it.1.found it.1.placed in
    ap (option_map (λ (x : Entry ℕ). x.id)) (sym c.in_ok-entry.was ∙ c.copied-2.ensures ∙ found)
    ∙ it.1.named
    ∙ ap (λ ms. id_of_short ms c.args.short) c.self.view_is
