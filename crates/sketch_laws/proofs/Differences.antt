-- The difference of two sets is the answer to the sum of their sketches.
use Rattle.std.proofs.Common.{◌≡◌, inl, inr, ℕ, ◌^◌, ◌<◌, ◌≤◌, List, length, get_or, sym, ap, subst, arith}
use Rattle.std.specs.List.{All, Contains}
use Rattle.std.proofs.lemmas.List.Elements.{Contains-get_or}
use Rattle.field_rules.specs.Elements.{numbers}
use Rattle.field_rules.specs.Lists.{AreDistinct}
use Rattle.sketch_rules.specs.Sets.{difference}
use Rattle.sketch_rules.specs.Sketches.{sketch_sum, sketch_at}
use Rattle.sketch_rules.specs.Answers.{Answer}
use Rattle.sketch_laws.proofs.EverySums.{length-odd_power_sums}
use Rattle.sketch_laws.proofs.Merging.{sketch_sum-sketches}
use Rattle.sketch_laws.proofs.Rising.{IsAscending-from_AllPairs}
use Rattle.sketch_laws.proofs.Sets.{has-from_Contains, Contains-from_has, difference-from, difference-rises}

-- a sketch of capacity c has c sums
pub length-sketch_at : (width : ℕ) (es : List ℕ) (c : ℕ) → length (sketch_at width es c) ≡ c
length-sketch_at width es c = length-odd_power_sums (numbers width) es 0 c

-- what holds of the members of both holds of those of the difference
pub of_difference : (P : ℕ → Type 0) (xs ys : List ℕ) → All P xs → All P ys → All P (difference xs ys)
of_difference P xs ys in_xs in_ys k d within =
    let n = get_or (difference xs ys) k d in
    elim (difference-from xs ys n (has-from_Contains (difference xs ys) n (Contains-get_or (difference xs ys) k d within))) [
      | inl one ↦ of_member xs n in_xs (Contains-from_has xs n one)
      | inr other ↦ of_member ys n in_ys (Contains-from_has ys n other)
    ]
  where
    of_member : (zs : List ℕ) (n : ℕ) → All P zs → Contains zs n → P n
    of_member zs n all (k, within, here) = subst P here (all k n within)

-- it answers the sum of the sketches
pub difference_answers : (width : ℕ) (xs ys : List ℕ) (c : ℕ) → All (λ e. (0 < e) × (e < 2 ^ width)) xs → All (λ e. (0 < e) × (e < 2 ^ width)) ys
    → AreDistinct xs → AreDistinct ys → length (difference xs ys) ≤ c
    → Answer width (sketch_sum (sketch_at width xs c) (sketch_at width ys c)) (difference xs ys)
difference_answers width xs ys c in_xs in_ys apart_xs apart_ys few =
    subst (λ (sums : List ℕ). Answer width sums (difference xs ys)) (sym (sketch_sum-sketches width xs ys c apart_xs apart_ys))
    (record {
      rises = IsAscending-from_AllPairs 1 (2 ^ width) (difference xs ys) (λ k d within. (members k d within).0) (λ k d within. (members k d within).1) (difference-rises xs ys apart_xs apart_ys);
      few = omega (arith, few, length-sketch_at width (difference xs ys) c);
      sketched = ap (sketch_at width (difference xs ys)) (length-sketch_at width (difference xs ys) c);
    })
  where
    members : All (λ e. (0 < e) × (e < 2 ^ width)) (difference xs ys)
    members = of_difference (λ e. (0 < e) × (e < 2 ^ width)) xs ys in_xs in_ys
