-- The sums of all powers, out of those of the odd powers.
use Rattle.std.proofs.Common.{◌≡◌, ◌⊎◌, inl, inr, ℕ, zero, suc, ◌+◌, ◌*◌, ◌/◌, ◌<◌, ◌≤◌, List, [], ◌∷◌, length, get_or, refl, sym, ap, ◌∙◌, arith}
use Rattle.std.proofs.lemmas.List.{ext_get_or}
use Rattle.field_rules.specs.Ops.{Ops, IsRing, power}
use Rattle.sketch_rules.specs.PowerSums.{IsAllSums, power_sum, odd_power_sums, sketch_by, power_sums}
use Rattle.field_laws.proofs.RingFacts.{zero_times, square_plus}
use Rattle.field_laws.proofs.Conjugates.{power-plus}

-- a number is even or odd
half : (p : ℕ) → (j : ℕ) × ((p ≡ 2 * j) ⊎ (p ≡ 2 * j + 1))
half p = (p / 2, parts)
  where
    parts : (p ≡ 2 * (p / 2)) ⊎ (p ≡ 2 * (p / 2) + 1)
    parts = grind arith

module _ {A : Type 0} (ops : Ops A) where
  pub length-odd_power_sums : (es : List A) (i n : ℕ) → length (odd_power_sums ops es i n) ≡ n
  unfolding odd_power_sums
  length-odd_power_sums es i zero = refl
  length-odd_power_sums es i (suc n) = ap suc (length-odd_power_sums es (i + 1) n)

  pub length-power_sums : (es : List A) (k n : ℕ) → length (power_sums ops es k n) ≡ n
  unfolding power_sums
  length-power_sums es k zero = refl
  length-power_sums es k (suc n) = ap suc (length-power_sums es (k + 1) n)

  -- the sum at index j
  pub get_or-odd_power_sums : (es : List A) (i n j : ℕ) (d : A) → j < n → get_or (odd_power_sums ops es i n) j d ≡ power_sum ops (2 * (i + j) + 1) es
  unfolding odd_power_sums
  get_or-odd_power_sums es i zero j d lt = absurd (omega arith)
  get_or-odd_power_sums es i (suc n) zero d lt = ap (λ k. power_sum ops k es) (omega arith)
  get_or-odd_power_sums es i (suc n) (suc j) d lt =
      get_or-odd_power_sums es (i + 1) n j d (omega arith) ∙ ap (λ k. power_sum ops k es) (omega arith)

  pub get_or-power_sums : (es : List A) (k n j : ℕ) (d : A) → j < n → get_or (power_sums ops es k n) j d ≡ power_sum ops (k + j) es
  unfolding power_sums
  get_or-power_sums es k zero j d lt = absurd (omega arith)
  get_or-power_sums es k (suc n) zero d lt = ap (λ z. power_sum ops z es) (omega arith)
  get_or-power_sums es k (suc n) (suc j) d lt =
      get_or-power_sums es (k + 1) n j d (omega arith) ∙ ap (λ z. power_sum ops z es) (omega arith)

  -- two lists of all sums are the same up to index n
  same_indices : (m s t : List A) → IsAllSums ops m s → IsAllSums ops m t → (n p : ℕ) → p < n → p < 2 * length m → get_or s p ops.zero ≡ get_or t p ops.zero
  same_indices m s t first second zero p lt within = absurd (omega arith)
  same_indices m s t first second (suc n) p lt within =
      let parts = half p in
      let j : ℕ = parts.0 in
      elim parts.1 [
        | inl even ↦ ap (λ z. get_or s z ops.zero) even ∙ first.odd j (omega arith) ∙ sym (second.odd j (omega arith)) ∙ ap (λ z. get_or t z ops.zero) (sym even)
        | inr odd ↦
            ap (λ z. get_or s z ops.zero) odd
            ∙ first.even j (omega arith)
            ∙ ap (λ z. ops.times z z) (same_indices m s t first second n j (omega arith) (omega arith))
            ∙ sym (second.even j (omega arith))
            ∙ ap (λ z. get_or t z ops.zero) (sym odd)
      ]

  -- there is one list of all sums
  pub all_sums_same : (m s t : List A) → IsAllSums ops m s → IsAllSums ops m t → s ≡ t
  all_sums_same m s t first second =
      ext_get_or ops.zero s t (first.size ∙ sym second.size)
      (λ p lt. same_indices m s t first second (suc p) p (omega arith) (omega (arith, first.size)))

  module _ (ring : IsRing ops) where
    -- the power by an even number is a square
    pub power-twice : (e : A) (k : ℕ) → power ops e (2 * k) ≡ ops.times (power ops e k) (power ops e k)
    power-twice e k = let twice : 2 * k ≡ k + k = omega arith in rw twice (power-plus ops ring e k k)

    -- the sum of even powers is the square of the sum of the powers by half
    pub power_sum-twice : (k : ℕ) (es : List A) → power_sum ops (2 * k) es ≡ ops.times (power_sum ops k es) (power_sum ops k es)
    unfolding power_sum
    power_sum-twice k [] = sym (zero_times ops ring ops.zero)
    power_sum-twice k (e ∷ es) =
        ap (λ z. ops.plus z (power_sum ops (2 * k) es)) (power-twice e k)
        ∙ ap (ops.plus (ops.times (power ops e k) (power ops e k))) (power_sum-twice k es)
        ∙ sym (square_plus ops ring (power ops e k) (power_sum ops k es))

    -- the sums of all powers of a list of elements belong to its sketch
    pub power_sums-is : (es : List A) (c : ℕ) → IsAllSums ops (sketch_by ops es c) (power_sums ops es 1 (2 * c))
    power_sums-is es c = record {
      size = length-power_sums es 1 (2 * c) ∙ ap (λ n. 2 * n) (sym (length-odd_power_sums es 0 c));
      odd = λ i lt. (
          get_or-power_sums es 1 (2 * c) (2 * i) ops.zero (omega (arith, length-odd_power_sums es 0 c))
          ∙ ap (λ k. power_sum ops k es) (omega arith)
          ∙ sym (get_or-odd_power_sums es 0 c i ops.zero (omega (arith, length-odd_power_sums es 0 c)))
          );
      even = λ i lt. (
          get_or-power_sums es 1 (2 * c) (2 * i + 1) ops.zero (omega (arith, length-odd_power_sums es 0 c))
          ∙ ap (λ k. power_sum ops k es) (omega arith)
          ∙ power_sum-twice (1 + i) es
          ∙ ap (λ z. ops.times z z) (sym (get_or-power_sums es 1 (2 * c) i ops.zero (omega (arith, length-odd_power_sums es 0 c))))
          );
    }

    -- and no other list does
    pub power_sums-only : (es : List A) (c : ℕ) (s : List A) → IsAllSums ops (sketch_by ops es c) s → s ≡ power_sums ops es 1 (2 * c)
    power_sums-only es c s all = all_sums_same (sketch_by ops es c) s (power_sums ops es 1 (2 * c)) all (power_sums-is es c)

    -- where the sums of odd powers below 2c are zero, so are those of all powers from 1 to 2c
    all_sums_zero : (es : List A) (c : ℕ) → ((i : ℕ) → i < c → power_sum ops (2 * i + 1) es ≡ ops.zero) → (n k : ℕ) → k ≤ n → 0 < k → k ≤ 2 * c → power_sum ops k es ≡ ops.zero
    all_sums_zero es c none zero k le some within = absurd (omega arith)
    all_sums_zero es c none (suc n) k le some within =
        let parts = half k in
        let j : ℕ = parts.0 in
        elim parts.1 [
          | inl even ↦
              ap (λ z. power_sum ops z es) even
              ∙ power_sum-twice j es
              ∙ ap (λ z. ops.times z z) (all_sums_zero es c none n j (omega arith) (omega arith) (omega arith))
              ∙ zero_times ops ring ops.zero
          | inr odd ↦ ap (λ z. power_sum ops z es) odd ∙ none j (omega arith)
        ]

    pub sums_zero : (es : List A) (c : ℕ) → ((i : ℕ) → i < c → power_sum ops (2 * i + 1) es ≡ ops.zero) → (k : ℕ) → 0 < k → k ≤ 2 * c → power_sum ops k es ≡ ops.zero
    sums_zero es c none k some within = all_sums_zero es c none k k (omega arith) some within
