use Rattle.std.proofs.Common.{not, Some, find, option_map, sym, ap, ap₂, cond, ◌==◌, subst, ◌∙◌}
use Rattle.std.specs.Option.{is_some}
use Rattle.std.specs.Ordering.{nat_cmp}
use Rattle.id_list.specs.Entries.{entry_of_id}
use Rattle.id_list.proofs.Found.{is_listed-is_some, without_entry-none}
use Rattle.pool_rules.specs.Pools.{is_same_id}
use Rattle.pool_rules.specs.Snapshots.{without_member}
use Rattle.recon_set.specs.Members.{members_of}
use Rattle.std.specs.BTreeMap.{get}
use Rattle.recon_set.specs.Groups.{group_at, without_place}
use Rattle.recon_set.specs.Invariant.{AreKept}
use Rattle.recon_set.proofs.Entries.{filter-members}
use Rattle.recon_set.proofs.Kept.{gone-none, gone-some, short_of-id, group_of-some, is_kept-less}
use Rattle.recon_set.proofs.members.Members.remove.Goals as goal

pub returns-in_err-place-clause-value : goal.returns-in_err-place-clause-value
returns-in_err-place-clause-value c =
    let none = gone-none (entry_of_id c.self.inside.list c.args.id.now) (c.remove.ensures.gone ∙ c.in_err-place.was) in
    c.from_residual.ensures
    ∙ sym (ap (option_map (λ e. e.1.value)) none)
    ∙ short_of-id c.self.inside.list c.args.id.now
    ∙ ap (λ ms. option_map (λ m. m.short) (find (λ m. is_same_id m.id c.args.id.now) ms)) c.self.view_is

pub invariant_of-self : goal.invariant_of-self
invariant_of-self c =
    let none = gone-none (entry_of_id c.self.inside.list c.args.id.now) (c.remove.ensures.gone ∙ c.in_err-place.was) in
    let same = c.remove.ensures.rest ∙ without_entry-none c.self.inside.list c.args.id.now (is_listed-is_some c.self.inside.list c.args.id.now ∙ ap is_some none) in
    subst (λ es. AreKept es c.self.inside.groups.entries) (sym same) c.self.invariant

pub returns-in_err-place-clause-rest : goal.returns-in_err-place-clause-rest
returns-in_err-place-clause-rest c =
    ap members_of c.remove.ensures.rest
    ∙ filter-members (λ m. not (is_same_id m.id c.args.id.now)) c.self.inside.list
    ∙ ap (λ ms. without_member ms c.args.id.now) c.self.view_is

pub take_place-requires : goal.take_place-requires
take_place-requires c =
    let it = gone-some (entry_of_id c.self.inside.list c.args.id.now) c.in_ok-place.place c.in_ok-place.short (c.remove.ensures.gone ∙ c.in_ok-place.was) in
    let has = group_of-some c.self.inside.list c.args.id.now it.0 c.self.invariant.distinct it.1.0 in
    (has.0, c.self.invariant.grouped c.in_ok-place.short ∙ ap (group_at c.self.inside.list) (sym it.1.1.1) ∙ has.1.0, has.1.1)

pub invariant_of-self-2 : goal.invariant_of-self-2
invariant_of-self-2 c =
    let it = gone-some (entry_of_id c.self.inside.list c.args.id.now) c.in_ok-place.place c.in_ok-place.short (c.remove.ensures.gone ∙ c.in_ok-place.was) in
    subst (λ es. AreKept es c.take_place.new.groups.entries) (sym c.remove.ensures.rest)
    (is_kept-less c.self.inside.list c.self.inside.groups.entries c.take_place.new.groups.entries c.args.id.now it.0 c.self.invariant it.1.0
    (λ g has s. c.take_place.ensures g (ap (λ n. get nat_cmp c.self.inside.groups n) (sym it.1.1.1) ∙ has) s
    ∙ ap₂ (λ n p. cond (n == s) (without_place g p) (get nat_cmp c.self.inside.groups s)) (sym it.1.1.1) (sym it.1.1.0)))

pub returns-clause-value : goal.returns-clause-value
returns-clause-value c =
    let it = gone-some (entry_of_id c.self.inside.list c.args.id.now) c.in_ok-place.place c.in_ok-place.short (c.remove.ensures.gone ∙ c.in_ok-place.was) in
    ap Some (sym it.1.1.1)
    ∙ sym (ap (option_map (λ e. e.1.value)) it.1.0)
    ∙ short_of-id c.self.inside.list c.args.id.now
    ∙ ap (λ ms. option_map (λ m. m.short) (find (λ m. is_same_id m.id c.args.id.now) ms)) c.self.view_is

pub returns-clause-rest : goal.returns-clause-rest
returns-clause-rest c =
    ap members_of c.remove.ensures.rest
    ∙ filter-members (λ m. not (is_same_id m.id c.args.id.now)) c.self.inside.list
    ∙ ap (λ ms. without_member ms c.args.id.now) c.self.view_is
