-- An element that comes or goes, as a sum of sketches.
use Rattle.std.proofs.Common.{◌≡◌, ℕ, ◌+◌, ◌*◌, List, [], ◌∷◌, length, map, refl, sym, ap, ap₂, ◌∙◌}
use Rattle.field_rules.specs.Ops.{Ops, IsRing, power, with_odd_powers}
use Rattle.field_rules.specs.Numbered.{IsNumbered}
use Rattle.field_rules.specs.Lists.{sums_of_both}
use Rattle.sketch_rules.specs.PowerSums.{power_sum, odd_power_sums, sketch_by}
use Rattle.sketch_rules.specs.Sketches.{sketch_at, sketch_sum}
use Rattle.sketch_laws.proofs.SketchNumbers.{sketch_by-numbers}
use Rattle.sketch_core.proofs.Both.{both-numbers}

module _ {A : Type 0} (ops : Ops A) (ring : IsRing ops) where
  -- the odd powers of an element are the sums of that element alone
  with_odd_powers-sums : (e : A) (i : ℕ) (xs : List A) → with_odd_powers ops e i xs ≡ sums_of_both ops xs (odd_power_sums ops (e ∷ []) i (length xs))
  unfolding with_odd_powers sums_of_both odd_power_sums power_sum
  with_odd_powers-sums e i [] = refl
  with_odd_powers-sums e i (x ∷ xs) = ap₂ (λ y ys. y ∷ ys) (ap (ops.plus x) (sym (ring.plus_zero (power ops e (2 * i + 1))))) (with_odd_powers-sums e (i + 1) xs)

  -- the same for their bits
  pub with_odd_powers-numbers : (bits_of : A → ℕ) (width : ℕ) → IsNumbered ops bits_of width → (e : A) (xs : List A)
      → map bits_of (with_odd_powers ops e 0 xs) ≡ sketch_sum (map bits_of xs) (sketch_at width (bits_of e ∷ []) (length xs))
  with_odd_powers-numbers bits_of width numbered e xs =
      ap (map bits_of) (with_odd_powers-sums e 0 xs)
      ∙ both-numbers ops bits_of width numbered xs (sketch_by ops (e ∷ []) (length xs))
      ∙ ap (sketch_sum (map bits_of xs)) (sketch_by-numbers ops bits_of width numbered (e ∷ []) (length xs))
