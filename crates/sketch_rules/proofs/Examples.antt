-- Worked examples, computed from the definitions alone.
use Rattle.std.proofs.Common.{◌≡◌, ℕ, zero, suc, ◌+◌, ◌*◌, ◌<◌, [], ◌∷◌, get_or, refl, arith, lit<, lit≤}
use Rattle.hex.specs.Hex.{encode_with}
use Rattle.std.specs.Prelude.{codes}
use Rattle.field_rules.specs.Ops.{power}
use Rattle.field_rules.specs.Elements.{carryless_product, remainder, product, numbers}
use Rattle.field_rules.specs.Lists.{sums_of_both}
use Rattle.sketch_rules.specs.PowerSums.{power_sum, odd_power_sums, power_sums, IsAllSums}
use Rattle.sketch_rules.specs.Sketches.{digits_of, sketch_sum, sketch_of}
use Rattle.sketch_rules.specs.Sets.{sorted_numbers, difference, sorted_insertion}
use Rattle.sketch_rules.specs.Answers.{IsAscending, Answer}

-- the set of 1 alone, at capacity 3
one : digits_of (sketch_of (1 ∷ []) 3) ≡ codes "010000000100000001000000"
unfolding product remainder carryless_product power power_sum odd_power_sums encode_with
one = refl

-- 1, 2 and 3, at capacity 4
three : digits_of (sketch_of (1 ∷ 2 ∷ 3 ∷ []) 4) ≡ codes "0000000006000000120000007e000000"
unfolding product remainder carryless_product power power_sum odd_power_sums encode_with
three = refl

-- x ^ 31, at capacity 2
highest : digits_of (sketch_of (0x80000000 ∷ []) 2) ≡ codes "00000080726d0420"
unfolding product remainder carryless_product power power_sum odd_power_sums encode_with
highest = refl

-- the empty set, at capacity 2
empty : digits_of (sketch_of [] 2) ≡ codes "0000000000000000"
unfolding product remainder carryless_product power power_sum odd_power_sums encode_with
empty = refl

-- the difference of two sets, and the sum of their sketches
differ : difference (7 ∷ 1 ∷ 3 ∷ []) (3 ∷ 2 ∷ 1 ∷ []) ≡ 2 ∷ 7 ∷ []
unfolding sorted_insertion sorted_numbers
differ = refl

summed : sketch_sum (sketch_of (1 ∷ 2 ∷ []) 2) (sketch_of (2 ∷ []) 2) ≡ sketch_of (1 ∷ []) 2
unfolding product remainder carryless_product power power_sum odd_power_sums sums_of_both
summed = refl

-- all four sums of 1 and 2, and how those of odd powers determine them
four : power_sums (numbers 32) (1 ∷ 2 ∷ []) 1 4 ≡ 3 ∷ 5 ∷ 9 ∷ 0x11 ∷ []
unfolding product remainder carryless_product power power_sum power_sums
four = refl

determined : IsAllSums (numbers 32) (3 ∷ 9 ∷ []) (3 ∷ 5 ∷ 9 ∷ 0x11 ∷ [])
unfolding product remainder carryless_product
determined = record { size = refl; odd = odd; even = even }
  where
    odd : (i : ℕ) → i < 2 → get_or {A = ℕ} (3 ∷ 5 ∷ 9 ∷ 0x11 ∷ []) (2 * i) 0 ≡ get_or (3 ∷ 9 ∷ []) i 0
    odd zero below = refl
    odd (suc zero) below = refl
    odd (suc (suc i)) below = absurd (omega arith)

    even : (i : ℕ) → i < 2 → get_or (3 ∷ 5 ∷ 9 ∷ 0x11 ∷ []) (2 * i + 1) 0 ≡ product 32 (get_or (3 ∷ 5 ∷ 9 ∷ 0x11 ∷ []) i 0) (get_or (3 ∷ 5 ∷ 9 ∷ 0x11 ∷ []) i 0)
    even zero below = refl
    even (suc zero) below = refl
    even (suc (suc i)) below = absurd (omega arith)

-- 1 and 2 are a set that the sketch 3, 9 is of; at capacity 1 the sketch of 1 and 2 is that of 3
answered : Answer 32 (3 ∷ 9 ∷ []) (1 ∷ 2 ∷ [])
unfolding product remainder carryless_product power power_sum odd_power_sums IsAscending
answered = record { rises = (lit≤ tt, lit< tt, (lit≤ tt, lit< tt, tt)); few = lit≤ tt; sketched = refl }

falsely_answered : Answer 32 (sketch_of (1 ∷ 2 ∷ []) 1) (3 ∷ [])
unfolding product remainder carryless_product power power_sum odd_power_sums IsAscending
falsely_answered = record { rises = (lit≤ tt, lit< tt, tt); few = lit≤ tt; sketched = refl }
