use Rattle.std.proofs.Common.{◌≡◌, rules}
use Rattle.std.specs.List.Sorted.{IsPermutation, IsSorted}
use Rattle.std.specs.Ordering.{nat_cmp}
use Rattle.std.proofs.lemmas.List.Sorted.{IsNonDecreasingBy-from_sort}
use Rattle.pool_rules.specs.Snapshots.{sketched_shorts}
use Rattle.responder.proofs.SoundAsks.{no_fault}
use Rattle.responder.proofs.asks.are_sound.Goals as goal

pub are_sketched_once-requires : goal.are_sketched_once-requires
are_sketched_once-requires g c =
    let sorted : IsSorted nat_cmp c.as_slice.result.now = rw c.as_slice.ensures.value c.sort_unstable.ensures.sorted in
    IsNonDecreasingBy-from_sort (λ x. x) c.as_slice.result.now sorted

pub returns : goal.returns
returns g c =
    let asks = c.args.asks.now in
    let sorted = c.as_slice.result.now in
    let copied : c.in_ok-sorted.sorted.items ≡ asks = search rules in
    let moved : IsPermutation asks sorted = rw (← copied, c.as_slice.ensures.value) c.sort_unstable.ensures.permutation in
    λ sound. no_fault (sketched_shorts c.args.snapshot.now.members) asks sorted moved (c.are_sketched_once.ensures sound)
