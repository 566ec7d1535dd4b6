use Rattle.std.proofs.Common.{◌<◌, ◌^◌, ◌==◌, ℕ, Some, cond, length, sym, ap, subst, ◌∙◌, arith}
use Rattle.std.specs.Ordering.{nat_cmp}
use Rattle.std.specs.Map.{lookup}
use Rattle.std.specs.BTreeMap.{is_at}
use Rattle.std.proofs.lemmas.List.Sums.{count_by-le-length}
use Rattle.id_list.specs.declared.list.Entry.{Entry}
use Rattle.id_list.specs.Entries.{without_entry}
use Rattle.pool_rules.specs.Pools.{is_listed}
use Rattle.pool_rules.specs.Snapshots.{ids_of}
use Rattle.pool_rules.specs.declared.limits.TheConstants.{POOL_LIMIT}
use Rattle.recon_set.specs.Members.{members_of}
use Rattle.recon_set.specs.Groups.{with_place}
use Rattle.recon_set.specs.Invariant.{AreKept}
use Rattle.recon_set.proofs.Entries.{ids_of-members, length-members}
use Rattle.recon_set.proofs.Kept.{room_for, is_kept-more, without_entry-last}
use Rattle.recon_set.proofs.members.Members.push.Goals as goal

pub push-requires : goal.push-requires
push-requires c = ap (λ ids. is_listed ids c.args.id) (sym (ids_of-members c.self.inside.list)) ∙ ap (λ ms. is_listed (ids_of ms) c.args.id) c.self.view_is ∙ c.requires.absent

pub group_with-group-requires : goal.group_with-group-requires
group_with-group-requires c =
    let few = count_by-le-length (λ (e : ℕ × Entry ℕ). e.1.value == c.args.short) c.self.inside.list in
    let size = sym (length-members c.self.inside.list) ∙ ap length c.self.view_is in
    let room = c.requires.room in
    room_for c.self.inside.list c.args.short (2 ^ 64) c.copied.result (c.copied.ensures ∙ c.get.ensures.value ∙ c.self.invariant.grouped c.args.short) (omega arith)

pub invariant_of-self-in-Ok : goal.invariant_of-self-in-Ok
invariant_of-self-in-Ok c =
    subst (λ es. AreKept es c.insert.new.self.entries) (sym c.in_ok-place.ensures.ok)
    (is_kept-more c.self.inside.list c.self.inside.groups.entries c.insert.new.self.entries c.in_ok-place.place (record { id = c.args.id; value = c.args.short }) c.self.invariant
    (ap (λ ids. is_listed ids c.args.id) (sym (ids_of-members c.self.inside.list)) ∙ ap (λ ms. is_listed (ids_of ms) c.args.id) c.self.view_is ∙ c.requires.absent) (subst (λ n. n < POOL_LIMIT) (ap length (sym c.self.view_is) ∙ length-members c.self.inside.list) c.requires.room) c.requires.nonzero (omega (arith, c.ranges.short.fits))
    (λ s. c.in-Ok.ensures.updates.0 s
    ∙ ap (λ g. cond (is_at (nat_cmp c.args.short) s) (Some g) (lookup (is_at (nat_cmp s)) c.self.inside.groups.entries)) (c.group_with-group.ensures ∙ ap (λ o. with_place o c.in_ok-place.place) (c.copied.ensures ∙ c.get.ensures.value))))

pub invariant_of-self-in-Err : goal.invariant_of-self-in-Err
invariant_of-self-in-Err c =
    let out = ap (λ ids. is_listed ids c.args.id) (sym (ids_of-members c.self.inside.list)) ∙ ap (λ ms. is_listed (ids_of ms) c.args.id) c.self.view_is ∙ c.requires.absent in
    let back = c.remove.ensures.rest ∙ ap (λ es. without_entry es c.args.id) c.in_ok-place.ensures.ok ∙ without_entry-last c.self.inside.list c.in_ok-place.place (record { id = c.args.id; value = c.args.short }) out in
    subst (λ es. AreKept es c.insert.new.self.entries) (sym back) (subst (λ gs. AreKept c.self.inside.list gs) (sym c.in-Err.ensures.err) c.self.invariant)

pub returns-in-Err-clause-err : goal.returns-in-Err-clause-err
returns-in-Err-clause-err c =
    let out = ap (λ ids. is_listed ids c.args.id) (sym (ids_of-members c.self.inside.list)) ∙ ap (λ ms. is_listed (ids_of ms) c.args.id) c.self.view_is ∙ c.requires.absent in
    let back = c.remove.ensures.rest ∙ ap (λ es. without_entry es c.args.id) c.in_ok-place.ensures.ok ∙ without_entry-last c.self.inside.list c.in_ok-place.place (record { id = c.args.id; value = c.args.short }) out in
    ap members_of back ∙ c.self.view_is
