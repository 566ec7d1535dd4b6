use Rattle.std.proofs.Common.{◌≡◌, rules}
use Rattle.std.specs.List.Sorted.{IsPermutation, IsSorted}
use Rattle.std.specs.Ordering.{nat_cmp}
use Rattle.std.proofs.lemmas.List.Sorted.{IsNonDecreasingBy-from_sort, IsPermutation-sym}
use Rattle.list_laws.proofs.Pairs.{AreDistinct-permutation}
use Rattle.erlay_c.proofs.set.are_distinct.Goals as goal

pub are_distinct_in_order-requires : goal.are_distinct_in_order-requires
are_distinct_in_order-requires c =
    let sorted : IsSorted nat_cmp c.as_slice.result.now = rw c.as_slice.ensures.value c.sort_unstable.ensures.sorted in
    IsNonDecreasingBy-from_sort (λ x. x) c.as_slice.result.now sorted

pub returns : goal.returns
returns c =
    let numbers = c.args.numbers.now in
    let sorted = c.as_slice.result.now in
    let copied : c.in_ok-sorted.sorted.items ≡ numbers = search rules in
    let moved : IsPermutation numbers sorted = rw (← copied, c.as_slice.ensures.value) c.sort_unstable.ensures.permutation in (
      λ distinct. AreDistinct-permutation sorted numbers (IsPermutation-sym numbers sorted moved) (c.are_distinct_in_order.ensures.0 distinct),
      λ apart. c.are_distinct_in_order.ensures.1 (AreDistinct-permutation numbers sorted moved apart),
    )
