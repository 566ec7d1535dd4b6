use Rattle.std.proofs.Common.{◌≡◌, ◌==◌, ◌||◌, not, filter, ap, ◌∙◌, rules}
use Rattle.std.specs.List.{list_any}
use Rattle.std.specs.List.Sorted.{IsPermutation, IsSorted}
use Rattle.std.specs.Ordering.{nat_cmp}
use Rattle.std.proofs.lemmas.List.Sorted.{IsNonDecreasingBy-from_sort}
use Rattle.std.proofs.lemmas.Result.{IfOk-weaker}
use Rattle.pool_rules.specs.Snapshots.{ids_of, is_single}
use Rattle.recon_set.specs.Announcements.{announced_ids}
use Rattle.recon_set.proofs.Announced.{announced-permutation}
use Rattle.recon_set.proofs.snapshot.Snapshot.announced.Goals as goal

pub announced-requires : goal.announced-requires
announced-requires g c =
    let sorted : IsSorted nat_cmp c.as_slice.result.now = rw c.as_slice.ensures.value c.sort_unstable.ensures.sorted in
    IsNonDecreasingBy-from_sort (λ x. x) c.as_slice.result.now sorted

pub returns : goal.returns
returns g c =
    let shorts = c.args.shorts.now in
    let sorted = c.as_slice.result.now in
    let copied : c.in_ok-sorted.sorted.items ≡ shorts = search rules in
    let moved : IsPermutation shorts sorted = rw (← copied, c.as_slice.ensures.value) c.sort_unstable.ensures.permutation in
    let these = announced-permutation c.self.inside.members shorts sorted moved ∙ ap (λ s. announced_ids s.members shorts) c.self.view_is in
    IfOk-weaker c.announced.result
    (λ ids. ids ≡ ids_of (filter (λ m. list_any (λ other. other == m.short) sorted || not (is_single c.self.inside.members m.short)) c.self.inside.members))
    (λ ids. ids ≡ announced_ids c.args.self.now.members shorts)
    (λ ids e. e ∙ these) c.announced.ensures
