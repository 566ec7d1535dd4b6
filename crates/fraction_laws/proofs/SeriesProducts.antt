-- Laws of the product of series.
use Rattle.std.proofs.Common.{◌≡◌, ◌≢◌, ◌⊎◌, inl, inr, ℕ, zero, suc, ◌+◌, ◌<◌, ◌≤◌, refl, sym, ap, ap₂, ◌∙◌, arith}
use Rattle.std.proofs.lemmas.Bool.{cases_eq}
use Rattle.field_rules.specs.Ops.{Ops, IsRing}
use Rattle.field_laws.proofs.RingFacts.{zero_plus, times_zero, zero_times, distributes_left, plus_swap, plus_again}
use Rattle.fraction_laws.specs.Locators.{series_product}

module _ {A : Type 0} (ops : Ops A) where
  -- the series times y
  unfoldable pub raised : (ℕ → A) → ℕ → A
  raised f zero = ops.zero
  raised f (suc j) = f j

  -- the series times y ^ n
  unfoldable pub raised_by : ℕ → (ℕ → A) → ℕ → A
  raised_by zero f j = f j
  raised_by (suc n) f j = raised_by n (raised f) j

  pub raised_by-from : (n : ℕ) (f : ℕ → A) (j : ℕ) → raised_by n f (n + j) ≡ f j
  unfolding raised_by raised
  raised_by-from zero f j = let index : 0 + j ≡ j = omega arith in ap f index
  raised_by-from (suc n) f j = let index : suc n + j ≡ n + suc j = omega arith in ap (raised_by n (raised f)) index ∙ raised_by-from n (raised f) (suc j)

  pub raised_by-below : (n : ℕ) (f : ℕ → A) (j : ℕ) → j < n → raised_by n f j ≡ ops.zero
  unfolding raised_by raised
  raised_by-below zero f j lt = absurd (omega arith)
  raised_by-below (suc n) f j lt = by (λ below. raised_by-below n (raised f) j below) (cases_eq j n)
    where
      by : (j < n → raised_by n (raised f) j ≡ ops.zero) → (j ≡ n) ⊎ (j ≡ n → ⊥) → raised_by n (raised f) j ≡ ops.zero
      by before (inl same) = let index : j ≡ n + 0 = omega (arith, same) in ap (raised_by n (raised f)) index ∙ raised_by-from n (raised f) 0
      by before (inr other) = let apart : j ≢ n = other in before (omega (arith, apart))

  -- the first n rows of the product: f_0 g + f_1 y g + ..
  unfoldable pub first_rows : ℕ → (ℕ → A) → (ℕ → A) → ℕ → A
  first_rows zero f g j = ops.zero
  first_rows (suc n) f g j = ops.plus (first_rows n f g j) (ops.times (f n) (raised_by n g j))

  -- only coefficients count
  pub product-same : (f g h k : ℕ → A) (j : ℕ) → ((i : ℕ) → f i ≡ h i) → ((i : ℕ) → g i ≡ k i) → series_product ops f g j ≡ series_product ops h k j
  unfolding series_product
  product-same f g h k zero first second = ap₂ ops.times (first 0) (second 0)
  product-same f g h k (suc j) first second =
      ap₂ ops.plus (ap₂ ops.times (first 0) (second (suc j))) (product-same (λ i. f (suc i)) g (λ i. h (suc i)) k j (λ i. first (suc i)) second)

module _ {A : Type 0} (ops : Ops A) (ring : IsRing ops) where
  -- ---- zero

  pub product-zero_left : (f g : ℕ → A) (j : ℕ) → ((i : ℕ) → f i ≡ ops.zero) → series_product ops f g j ≡ ops.zero
  unfolding series_product
  product-zero_left f g zero none = ap (λ z. ops.times z (g 0)) (none 0) ∙ zero_times ops ring (g 0)
  product-zero_left f g (suc j) none =
      ap₂ ops.plus (ap (λ z. ops.times z (g (suc j))) (none 0) ∙ zero_times ops ring (g (suc j))) (product-zero_left (λ i. f (suc i)) g j (λ i. none (suc i)))
      ∙ ring.plus_zero ops.zero

  -- ---- the other order

  -- the last term set apart
  product-last : (f g : ℕ → A) (j : ℕ) → series_product ops f g (suc j) ≡ ops.plus (series_product ops f (λ i. g (suc i)) j) (ops.times (f (suc j)) (g 0))
  unfolding series_product
  product-last f g zero = refl
  product-last f g (suc j) =
      ap (ops.plus (ops.times (f 0) (g (suc (suc j))))) (product-last (λ i. f (suc i)) g j)
      ∙ sym (ring.plus_assoc (ops.times (f 0) (g (suc (suc j)))) (series_product ops (λ i. f (suc i)) (λ i. g (suc i)) j) (ops.times (f (suc (suc j))) (g 0)))

  pub product-comm : (f g : ℕ → A) (j : ℕ) → series_product ops f g j ≡ series_product ops g f j
  unfolding series_product
  product-comm f g zero = ring.times_comm (f 0) (g 0)
  product-comm f g (suc j) =
      ap₂ ops.plus (ring.times_comm (f 0) (g (suc j))) (product-comm (λ i. f (suc i)) g j)
      ∙ ring.plus_comm (ops.times (g (suc j)) (f 0)) (series_product ops g (λ i. f (suc i)) j)
      ∙ sym (product-last g f j)

  -- ---- sums and multiples

  -- a series and a multiple of another, on the left
  pub product-left : (f g h : ℕ → A) (k : A) (j : ℕ)
      → series_product ops (λ i. ops.plus (f i) (ops.times k (g i))) h j ≡ ops.plus (series_product ops f h j) (ops.times k (series_product ops g h j))
  unfolding series_product
  product-left f g h k zero = distributes_left ops ring (f 0) (ops.times k (g 0)) (h 0) ∙ ap (ops.plus (ops.times (f 0) (h 0))) (ring.times_assoc k (g 0) (h 0))
  product-left f g h k (suc j) =
      ap₂ ops.plus
      (distributes_left ops ring (f 0) (ops.times k (g 0)) (h (suc j)) ∙ ap (ops.plus (ops.times (f 0) (h (suc j)))) (ring.times_assoc k (g 0) (h (suc j))))
      (product-left (λ i. f (suc i)) (λ i. g (suc i)) h k j)
      ∙ plus_swap ops ring (ops.times (f 0) (h (suc j))) (ops.times k (ops.times (g 0) (h (suc j)))) (series_product ops (λ i. f (suc i)) h j)
      (ops.times k (series_product ops (λ i. g (suc i)) h j))
      ∙ ap (ops.plus (ops.plus (ops.times (f 0) (h (suc j))) (series_product ops (λ i. f (suc i)) h j)))
      (sym (ring.distributes k (ops.times (g 0) (h (suc j))) (series_product ops (λ i. g (suc i)) h j)))

  -- on the right
  pub product-right : (f g h : ℕ → A) (k : A) (j : ℕ)
      → series_product ops f (λ i. ops.plus (g i) (ops.times k (h i))) j ≡ ops.plus (series_product ops f g j) (ops.times k (series_product ops f h j))
  product-right f g h k j =
      product-comm f (λ i. ops.plus (g i) (ops.times k (h i))) j
      ∙ product-left g h f k j
      ∙ ap₂ ops.plus (product-comm g f j) (ap (ops.times k) (product-comm h f j))

  -- on both sides, where the mixed products are there twice
  pub product-square : (f g : ℕ → A) (k : A) (j : ℕ)
      → series_product ops (λ i. ops.plus (f i) (ops.times k (g i))) (λ i. ops.plus (f i) (ops.times k (g i))) j
      ≡ ops.plus (series_product ops f f j) (ops.times (ops.times k k) (series_product ops g g j))
  product-square f g k j =
      product-left f g both k j
      ∙ ap₂ ops.plus (product-right f f g k j) (ap (ops.times k) (product-right g f g k j) ∙ ring.distributes k (series_product ops g f j) (ops.times k (series_product ops g g j)))
      ∙ ap (λ z. ops.plus (ops.plus (series_product ops f f j) mixed) (ops.plus (ops.times k z) (ops.times k (ops.times k (series_product ops g g j))))) (product-comm g f j)
      ∙ ring.plus_assoc (series_product ops f f j) mixed (ops.plus mixed (ops.times k (ops.times k (series_product ops g g j))))
      ∙ ap (ops.plus (series_product ops f f j)) (plus_again ops ring mixed (ops.times k (ops.times k (series_product ops g g j))) ∙ sym (ring.times_assoc k k (series_product ops g g j)))
    where
      both : ℕ → A
      both = λ i. ops.plus (f i) (ops.times k (g i))

      mixed : A
      mixed = ops.times k (series_product ops f g j)

  -- ---- times y

  pub product-raised_left : (f g : ℕ → A) (j : ℕ) → series_product ops (raised ops f) g j ≡ raised ops (series_product ops f g) j
  unfolding series_product raised
  product-raised_left f g zero = zero_times ops ring (g 0)
  product-raised_left f g (suc j) = ap (λ z. ops.plus z (series_product ops f g j)) (zero_times ops ring (g (suc j))) ∙ zero_plus ops ring (series_product ops f g j)

  pub product-raised_right : (f g : ℕ → A) (j : ℕ) → series_product ops f (raised ops g) j ≡ raised ops (series_product ops f g) j
  unfolding raised
  product-raised_right f g zero = product-comm f (raised ops g) zero ∙ product-raised_left g f zero
  product-raised_right f g (suc j) = product-comm f (raised ops g) (suc j) ∙ product-raised_left g f (suc j) ∙ product-comm g f j

  -- ---- row by row

  rows-first : (n : ℕ) (f g : ℕ → A) (j : ℕ) → first_rows ops (suc n) f g j ≡ ops.plus (ops.times (f 0) (g j)) (first_rows ops n (λ i. f (suc i)) (raised ops g) j)
  unfolding first_rows raised_by
  rows-first zero f g j = ring.plus_comm ops.zero (ops.times (f 0) (g j))
  rows-first (suc n) f g j =
      ap (λ z. ops.plus z (ops.times (f (suc n)) (raised_by ops n (raised ops g) j))) (rows-first n f g j)
      ∙ ring.plus_assoc (ops.times (f 0) (g j)) (first_rows ops n (λ i. f (suc i)) (raised ops g) j) (ops.times (f (suc n)) (raised_by ops n (raised ops g) j))

  product-first : (f g : ℕ → A) (j : ℕ) → series_product ops f g j ≡ ops.plus (ops.times (f 0) (g j)) (series_product ops (λ i. f (suc i)) (raised ops g) j)
  unfolding series_product raised
  product-first f g zero = sym (ap (ops.plus (ops.times (f 0) (g 0))) (times_zero ops ring (f 1)) ∙ ring.plus_zero (ops.times (f 0) (g 0)))
  product-first f g (suc j) = ap (ops.plus (ops.times (f 0) (g (suc j)))) (sym (product-raised_right (λ i. f (suc i)) g (suc j)))

  -- where f has no coefficient from n on, these are all rows
  pub product-rows : (n : ℕ) (f g : ℕ → A) (j : ℕ) → ((i : ℕ) → n ≤ i → f i ≡ ops.zero) → series_product ops f g j ≡ first_rows ops n f g j
  unfolding first_rows
  product-rows zero f g j none = product-zero_left f g j (λ i. none i (omega arith))
  product-rows (suc n) f g j none =
      product-first f g j
      ∙ ap (ops.plus (ops.times (f 0) (g j))) (product-rows n (λ i. f (suc i)) (raised ops g) j (λ i le. none (suc i) (omega arith)))
      ∙ sym (rows-first n f g j)
