-- Parts of the list of sums: its front, its rest, and both together.
use Rattle.std.proofs.Common.{◌≡◌, ℕ, zero, suc, ◌+◌, ◌-◌, ◌*◌, ◌≤◌, List, ◌∷◌, ◌++◌, take, drop, refl, ap, ◌∙◌, arith}
use Rattle.field_rules.specs.Ops.{Ops}
use Rattle.sketch_rules.specs.PowerSums.{power_sum, odd_power_sums, sketch_by}

module _ {A : Type 0} (ops : Ops A) (es : List A) where
  -- the first k of n sums
  pub odd_power_sums-front : (i n k : ℕ) → k ≤ n → take k (odd_power_sums ops es i n) ≡ odd_power_sums ops es i k
  unfolding odd_power_sums
  odd_power_sums-front i n zero le = refl
  odd_power_sums-front i zero (suc k) le = absurd (omega arith)
  odd_power_sums-front i (suc n) (suc k) le = ap (λ rest. power_sum ops (2 * i + 1) es ∷ rest) (odd_power_sums-front (i + 1) n k (omega arith))

  -- all but the first k
  pub odd_power_sums-rest : (i n k : ℕ) → k ≤ n → drop k (odd_power_sums ops es i n) ≡ odd_power_sums ops es (i + k) (n - k)
  unfolding odd_power_sums
  odd_power_sums-rest i n zero le =
      let place : i ≡ i + 0 = omega arith in
      let count : n ≡ n - 0 = omega arith in
      ap (λ j. odd_power_sums ops es j n) place ∙ ap (odd_power_sums ops es (i + 0)) count
  odd_power_sums-rest i zero (suc k) le = absurd (omega arith)
  odd_power_sums-rest i (suc n) (suc k) le =
      let place : i + 1 + k ≡ i + suc k = omega arith in
      let count : n - k ≡ suc n - suc k = omega arith in
      odd_power_sums-rest (i + 1) n k (omega arith) ∙ ap (λ j. odd_power_sums ops es j (n - k)) place ∙ ap (odd_power_sums ops es (i + suc k)) count

  -- the n sums from index k on, out of all
  pub odd_power_sums-middle : (k n c : ℕ) → k + n ≤ c → take n (drop k (sketch_by ops es c)) ≡ odd_power_sums ops es k n
  odd_power_sums-middle k n c le =
      let place : 0 + k ≡ k = omega arith in
      ap (take n) (odd_power_sums-rest 0 c k (omega arith)) ∙ odd_power_sums-front (0 + k) (c - k) n (omega arith) ∙ ap (λ j. odd_power_sums ops es j n) place

  -- m sums and the n behind them
  pub odd_power_sums-joined : (i m n : ℕ) → odd_power_sums ops es i m ++ odd_power_sums ops es (i + m) n ≡ odd_power_sums ops es i (m + n)
  unfolding odd_power_sums
  odd_power_sums-joined i zero n =
      let place : i + 0 ≡ i = omega arith in
      let count : n ≡ 0 + n = omega arith in
      ap (λ j. odd_power_sums ops es j n) place ∙ ap (odd_power_sums ops es i) count
  odd_power_sums-joined i (suc m) n =
      let place : i + suc m ≡ i + 1 + m = omega arith in
      let count : suc m + n ≡ suc (m + n) = omega arith in
      rw (place, count) (ap (λ rest. power_sum ops (2 * i + 1) es ∷ rest) (odd_power_sums-joined (i + 1) m n))

  -- a sketch and what it lacks of a larger capacity
  pub sketch_by-joined : (m n : ℕ) → sketch_by ops es m ++ odd_power_sums ops es m n ≡ sketch_by ops es (m + n)
  sketch_by-joined m n = let place : m ≡ 0 + m = omega arith in
      ap (λ j. sketch_by ops es m ++ odd_power_sums ops es j n) place ∙ odd_power_sums-joined 0 m n
