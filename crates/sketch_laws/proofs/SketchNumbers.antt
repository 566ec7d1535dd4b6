-- A sketch over a field whose elements are told by their bits is the sketch over numbers.
use Rattle.std.proofs.Common.{◌≡◌, ℕ, zero, suc, ◌+◌, ◌*◌, List, [], ◌∷◌, map, refl, ◌∙◌, ap}
use Rattle.field_rules.specs.Ops.{Ops, power}
use Rattle.field_rules.specs.Elements.{product, numbers}
use Rattle.field_rules.specs.Numbered.{IsNumbered}
use Rattle.sketch_rules.specs.PowerSums.{power_sum, odd_power_sums, sketch_by}
use Rattle.sketch_rules.specs.Sketches.{sketch_at}

module _ {A : Type 0} (ops : Ops A) (bits_of : A → ℕ) (width : ℕ) (numbered : IsNumbered ops bits_of width) where
  -- the bits of a power
  pub power-numbers : (e : A) (k : ℕ) → bits_of (power ops e k) ≡ power (numbers width) (bits_of e) k
  unfolding power
  power-numbers e zero = numbered.one_bits
  power-numbers e (suc k) = numbered.times_bits (power ops e k) e ∙ ap (λ p. product width p (bits_of e)) (power-numbers e k)

  -- the bits of a sum of powers
  pub power_sum-numbers : (k : ℕ) (es : List A) → bits_of (power_sum ops k es) ≡ power_sum (numbers width) k (map bits_of es)
  unfolding power_sum
  power_sum-numbers k [] = numbered.zero_bits
  power_sum-numbers k (e ∷ es) =
      numbered.plus_bits (power ops e k) (power_sum ops k es)
      ∙ rw (power-numbers e k, power_sum-numbers k es) refl

  -- the bits of the sums
  pub odd_power_sums-numbers : (es : List A) (i n : ℕ) → map bits_of (odd_power_sums ops es i n) ≡ odd_power_sums (numbers width) (map bits_of es) i n
  unfolding odd_power_sums
  odd_power_sums-numbers es i zero = refl
  odd_power_sums-numbers es i (suc n) = rw (power_sum-numbers (2 * i + 1) es, odd_power_sums-numbers es (i + 1) n) refl

  -- the bits of a sketch
  pub sketch_by-numbers : (es : List A) (c : ℕ) → map bits_of (sketch_by ops es c) ≡ sketch_at width (map bits_of es) c
  sketch_by-numbers es c = odd_power_sums-numbers es 0 c
