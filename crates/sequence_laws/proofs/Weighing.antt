-- Sums of weighted powers as a function of the weights.
use Rattle.std.proofs.Common.{◌≡◌, ◌⊎◌, ℕ, suc, ◌+◌, ◌<◌, Bool, true, false, cond, List, [], ◌∷◌, length, get_or, refl, sym, ap, ◌∙◌, arith}
use Rattle.std.specs.Prelude.{filter}
use Rattle.std.specs.List.{All}
use Rattle.field_rules.specs.Lists.{AreDistinct}
use Rattle.field_rules.specs.Ops.{Ops, IsRing, power}
use Rattle.field_laws.proofs.RingFacts.{zero_plus, times_zero, zero_times, distributes_left, plus_swap, times_swap, square_plus}
use Rattle.field_laws.proofs.Conjugates.{power-plus}
use Rattle.field_laws.proofs.Weights.{weighted as weighted_in_ring, weighted-zero as weighted_in_ring-zero, lone_weight as lone_weight_in_ring}
use Rattle.sequence_laws.specs.Sequences.{weighted}

module _ {A : Type 0} (ops : Ops A) (ring : IsRing ops) where
  -- ---- the sums of Weights, by the definition without the ring

  same_sum : (w : A → A) (k : ℕ) (es : List A) → weighted ops w k es ≡ weighted_in_ring ops ring w k es
  unfolding weighted weighted_in_ring
  same_sum w k [] = refl
  same_sum w k (e ∷ es) = ap (ops.plus (ops.times (w e) (power ops e k))) (same_sum w k es)

  pub weighted-cons : (w : A → A) (k : ℕ) (x : A) (xs : List A) → weighted ops w k (x ∷ xs) ≡ ops.plus (ops.times (w x) (power ops x k)) (weighted ops w k xs)
  unfolding weighted
  weighted-cons w k x xs = refl

  pub weighted-zero : (w : A → A) (k : ℕ) (xs : List A) → ((i : ℕ) (d : A) → i < length xs → w (get_or xs i d) ≡ ops.zero) → weighted ops w k xs ≡ ops.zero
  weighted-zero w k xs none = same_sum w k xs ∙ weighted_in_ring-zero ops ring w k xs none

  pub lone_weight : (no_zero_divisor : (a b : A) → ops.times a b ≡ ops.zero → (a ≡ ops.zero) ⊎ (b ≡ ops.zero))
      → (w : A → A) (xs : List A) → AreDistinct xs → ((k : ℕ) → k < length xs → weighted ops w k xs ≡ ops.zero)
      → (i : ℕ) (d : A) → i < length xs → w (get_or xs i d) ≡ ops.zero
  lone_weight no_zero_divisor w xs differ none = lone_weight_in_ring ops ring no_zero_divisor w xs differ (λ k lt. sym (same_sum w k xs) ∙ none k lt)

  -- ---- as a function of the weights

  -- two factors change places
  pub times_turn : (a b c : A) → ops.times a (ops.times b c) ≡ ops.times b (ops.times a c)
  times_turn a b c = sym (ring.times_assoc a b c) ∙ ap (λ z. ops.times z c) (ring.times_comm a b) ∙ ring.times_assoc b a c

  -- weights that are alike on the set
  pub weighted-same : (v w : A → A) (k : ℕ) (es : List A) → All (λ e. v e ≡ w e) es → weighted ops v k es ≡ weighted ops w k es
  unfolding weighted
  weighted-same v w k [] same = refl
  weighted-same v w k (e ∷ es) same =
      ap (λ z. ops.plus (ops.times z (power ops e k)) (weighted ops v k es)) (same 0 e (omega arith))
      ∙ ap (ops.plus (ops.times (w e) (power ops e k))) (weighted-same v w k es (λ i d lt. same (suc i) d (omega arith)))

  pub weighted-plus : (v w : A → A) (k : ℕ) (es : List A) → weighted ops (λ e. ops.plus (v e) (w e)) k es ≡ ops.plus (weighted ops v k es) (weighted ops w k es)
  unfolding weighted
  weighted-plus v w k [] = sym (ring.plus_zero ops.zero)
  weighted-plus v w k (e ∷ es) =
      ap (λ z. ops.plus z (weighted ops (λ x. ops.plus (v x) (w x)) k es)) (distributes_left ops ring (v e) (w e) (power ops e k))
      ∙ ap (ops.plus (ops.plus (ops.times (v e) (power ops e k)) (ops.times (w e) (power ops e k)))) (weighted-plus v w k es)
      ∙ plus_swap ops ring (ops.times (v e) (power ops e k)) (ops.times (w e) (power ops e k)) (weighted ops v k es) (weighted ops w k es)

  pub weighted-times : (c : A) (w : A → A) (k : ℕ) (es : List A) → weighted ops (λ e. ops.times c (w e)) k es ≡ ops.times c (weighted ops w k es)
  unfolding weighted
  weighted-times c w k [] = sym (times_zero ops ring c)
  weighted-times c w k (e ∷ es) =
      ap (λ z. ops.plus z (weighted ops (λ x. ops.times c (w x)) k es)) (ring.times_assoc c (w e) (power ops e k))
      ∙ ap (ops.plus (ops.times c (ops.times (w e) (power ops e k)))) (weighted-times c w k es)
      ∙ sym (ring.distributes c (ops.times (w e) (power ops e k)) (weighted ops w k es))

  -- at a higher power
  pub weighted-up : (w : A → A) (k j : ℕ) (es : List A) → weighted ops w (k + j) es ≡ weighted ops (λ e. ops.times (w e) (power ops e j)) k es
  unfolding weighted
  weighted-up w k j [] = refl
  weighted-up w k j (e ∷ es) =
      ap (λ z. ops.plus z (weighted ops w (k + j) es))
      (ap (ops.times (w e)) (power-plus ops ring e k j ∙ ring.times_comm (power ops e k) (power ops e j))
      ∙ sym (ring.times_assoc (w e) (power ops e j) (power ops e k)))
      ∙ ap (ops.plus (ops.times (ops.times (w e) (power ops e j)) (power ops e k))) (weighted-up w k j es)

  -- by one
  pub weighted-next : (w : A → A) (k : ℕ) (es : List A) → weighted ops w (k + 1) es ≡ weighted ops (λ e. ops.times (w e) e) k es
  unfolding weighted power
  weighted-next w k es =
      weighted-up w k 1 es
      ∙ weighted-same (λ e. ops.times (w e) (power ops e 1)) (λ e. ops.times (w e) e) k es
      (λ i d lt. ap (ops.times (w (get_or es i d))) (ring.times_comm ops.one (get_or es i d) ∙ ring.times_one (get_or es i d)))

  -- by two
  pub weighted-after : (w : A → A) (k : ℕ) (es : List A) → weighted ops w (k + 2) es ≡ weighted ops (λ e. ops.times (w e) (ops.times e e)) k es
  unfolding weighted power
  weighted-after w k es =
      weighted-up w k 2 es
      ∙ weighted-same (λ e. ops.times (w e) (power ops e 2)) (λ e. ops.times (w e) (ops.times e e)) k es
      (λ i d lt. ap (λ z. ops.times (w (get_or es i d)) (ops.times z (get_or es i d))) (ring.times_comm ops.one (get_or es i d) ∙ ring.times_one (get_or es i d)))

  -- a times the sum of w, and the weights w v at the power after it
  pub weighted-joined : (a : A) (w v : A → A) (k : ℕ) (es : List A)
      → ops.plus (ops.times a (weighted ops w k es)) (weighted ops (λ e. ops.times (w e) (v e)) k es)
      ≡ weighted ops (λ e. ops.times (w e) (ops.plus a (v e))) k es
  weighted-joined a w v k es =
      ap (λ z. ops.plus z (weighted ops (λ e. ops.times (w e) (v e)) k es)) (sym (weighted-times a w k es))
      ∙ sym (weighted-plus (λ e. ops.times a (w e)) (λ e. ops.times (w e) (v e)) k es)
      ∙ weighted-same (λ e. ops.plus (ops.times a (w e)) (ops.times (w e) (v e))) (λ e. ops.times (w e) (ops.plus a (v e))) k es
      (λ i d lt.
      ap (λ z. ops.plus z (ops.times (w (get_or es i d)) (v (get_or es i d)))) (ring.times_comm a (w (get_or es i d)))
      ∙ sym (ring.distributes (w (get_or es i d)) a (v (get_or es i d))))

  -- weights that are zero where a test fails
  pub weighted-kept : (w : A → A) (p : A → Bool) (k : ℕ) (es : List A) → All (λ e. p e ≡ false → w e ≡ ops.zero) es
      → weighted ops w k es ≡ weighted ops w k (filter p es)
  unfolding weighted
  weighted-kept w p k [] none = refl
  weighted-kept w p k (e ∷ es) none = by_test (p e) (none 0 e (omega arith)) (weighted-kept w p k es (λ i d lt. none (suc i) d (omega arith)))
    where
      by_test : (b : Bool) → (b ≡ false → w e ≡ ops.zero) → weighted ops w k es ≡ weighted ops w k (filter p es)
          → ops.plus (ops.times (w e) (power ops e k)) (weighted ops w k es) ≡ weighted ops w k (cond b (e ∷ filter p es) (filter p es))
      by_test true fails rest = ap (ops.plus (ops.times (w e) (power ops e k))) rest
      by_test false fails rest =
          ap (λ z. ops.plus (ops.times z (power ops e k)) (weighted ops w k es)) (fails refl)
          ∙ ap (λ z. ops.plus z (weighted ops w k es)) (zero_times ops ring (power ops e k))
          ∙ zero_plus ops ring (weighted ops w k es)
          ∙ rest

  -- the square of a sum
  pub weighted-square : (w : A → A) (k : ℕ) (es : List A) → ops.times (weighted ops w k es) (weighted ops w k es) ≡ weighted ops (λ e. ops.times (w e) (w e)) (k + k) es
  unfolding weighted
  weighted-square w k [] = times_zero ops ring ops.zero
  weighted-square w k (e ∷ es) =
      square_plus ops ring (ops.times (w e) (power ops e k)) (weighted ops w k es)
      ∙ ap (λ z. ops.plus z (ops.times (weighted ops w k es) (weighted ops w k es)))
      (times_swap ops ring (w e) (power ops e k) (w e) (power ops e k) ∙ ap (ops.times (ops.times (w e) (w e))) (sym (power-plus ops ring e k k)))
      ∙ ap (ops.plus (ops.times (ops.times (w e) (w e)) (power ops e (k + k)))) (weighted-square w k es)
