-- Power sums and sketches over any type with a sum and a product.
use Rattle.std.specs.Prelude.{◌≡◌, ℕ, zero, suc, ◌+◌, ◌*◌, ◌<◌, List, [], ◌∷◌, length, get_or}
use Rattle.field_rules.specs.Ops.{Ops, power}

-- s_k: the sum of the k-th powers of the elements
unfoldable pub power_sum : {A : Type 0} → Ops A → ℕ → List A → A
power_sum ops k [] = ops.zero
power_sum ops k (e ∷ es) = ops.plus (power ops e k) (power_sum ops k es)

-- the n sums s_(2i+1), s_(2i+3), .. of odd powers, from index i on
unfoldable pub odd_power_sums : {A : Type 0} → Ops A → List A → ℕ → ℕ → List A
odd_power_sums ops es i zero = []
odd_power_sums ops es i (suc n) = power_sum ops (2 * i + 1) es ∷ odd_power_sums ops es (i + 1) n

-- the sketch of capacity c: s_1, s_3, .., s_(2c-1). PinSketch, in Dodis, Ostrovsky, Reyzin and Smith, Fuzzy
-- Extractors, section 6.3
abbrev pub sketch_by : {A : Type 0} → Ops A → List A → ℕ → List A
sketch_by ops es c = odd_power_sums ops es 0 c

-- the n sums s_k, s_(k+1), .. of all powers, from s_k on
unfoldable pub power_sums : {A : Type 0} → Ops A → List A → ℕ → ℕ → List A
power_sums ops es k zero = []
power_sums ops es k (suc n) = power_sum ops k es ∷ power_sums ops es (k + 1) n

-- s is the list s_1, s_2, .., s_(2c) that belongs to the c sums of odd powers: the sums stand at the odd powers, and at
-- each even power the square of the sum of half that power, since squaring is additive
pub record IsAllSums {A : Type 0} (ops : Ops A) (sums s : List A) : Type 0 where
  pub size : length s ≡ 2 * length sums
  pub odd : (i : ℕ) → i < length sums → get_or s (2 * i) ops.zero ≡ get_or sums i ops.zero
  pub even : (i : ℕ) → i < length sums → get_or s (2 * i + 1) ops.zero ≡ ops.times (get_or s i ops.zero) (get_or s i ops.zero)
