use Rattle.std.proofs.Common.{◌≡◌, rules, sym, subst, List, ℕ}
use Rattle.std.specs.List.Sorted.{IsPermutation, IsSorted}
use Rattle.std.specs.Ordering.{nat_cmp}
use Rattle.std.proofs.lemmas.List.Sorted.{IsNonDecreasingBy-from_sort, IsPermutation-sym}
use Rattle.sketch_text.specs.Repeats.{HasRepeats}
use Rattle.sketch_text.proofs.Pairs.{repeats-permutation}
use Rattle.sketch_text.proofs.Found.{distinct_from_none}
use Rattle.sketch_text.proofs.repeats.first_repeat.Goals as goal

pub repeats_of-requires : goal.repeats_of-requires
repeats_of-requires c =
    let sorted : IsSorted nat_cmp c.as_slice.result.now = rw c.as_slice.ensures.value c.sort_unstable.ensures.sorted in
    IsNonDecreasingBy-from_sort (λ x. x) c.as_slice.result.now sorted

pub returns-then-is_empty : goal.returns-then-is_empty
returns-then-is_empty c =
    let numbers = c.args.numbers.now in
    let found = c.in_ok-repeats.repeats.items in
    let copied : c.in_ok-sorted.sorted.items ≡ numbers = search rules in
    let moved : IsPermutation numbers c.as_slice.result.now = rw (← copied, c.as_slice.ensures.value) c.sort_unstable.ensures.permutation in
    distinct_from_none found numbers (search rules) (repeats-permutation found c.as_slice.result.now numbers (IsPermutation-sym numbers c.as_slice.result.now moved) c.in_ok-repeats.ensures.repeated)

pub first_marked-requires-clause-repeated : goal.first_marked-requires-clause-repeated
first_marked-requires-clause-repeated c =
    let numbers = c.args.numbers.now in
    let found = c.in_ok-repeats.repeats.items in
    let copied : c.in_ok-sorted.sorted.items ≡ numbers = search rules in
    let moved : IsPermutation numbers c.as_slice.result.now = rw (← copied, c.as_slice.ensures.value) c.sort_unstable.ensures.permutation in
    let repeated : HasRepeats found numbers = repeats-permutation found c.as_slice.result.now numbers (IsPermutation-sym numbers c.as_slice.result.now moved) c.in_ok-repeats.ensures.repeated in
    subst (λ (xs : List ℕ). HasRepeats xs numbers) (sym c.as_slice-2.ensures.value) repeated
