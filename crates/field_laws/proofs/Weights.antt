-- Sums of weighted powers: as many of them as there are elements, all zero, leave no weight.
use Rattle.std.proofs.Common.{◌≡◌, ◌≢◌, ◌⊎◌, inl, inr, ℕ, zero, suc, ◌<◌, List, [], ◌∷◌, length, get_or, refl, sym, ap, ◌∙◌, arith}
use Rattle.field_rules.specs.Ops.{Ops, IsRing, power}
use Rattle.field_rules.specs.Lists.{AreDistinct}
use Rattle.field_laws.proofs.RingFacts.{zero_plus, times_zero, zero_times, distributes_left, plus_swap, same_of_sum}

module _ {A : Type 0} (ops : Ops A) (ring : IsRing ops) where
  -- the sum of w x * x ^ k over the elements
  unfoldable pub weighted : (A → A) → ℕ → List A → A
  weighted w k [] = ops.zero
  weighted w k (x ∷ xs) = ops.plus (ops.times (w x) (power ops x k)) (weighted w k xs)

  -- one element more
  pub weighted-cons : (w : A → A) (k : ℕ) (x : A) (xs : List A) → weighted w k (x ∷ xs) ≡ ops.plus (ops.times (w x) (power ops x k)) (weighted w k xs)
  unfolding weighted
  weighted-cons w k x xs = refl

  -- weights that are all zero
  pub weighted-zero : (w : A → A) (k : ℕ) (xs : List A) → ((i : ℕ) (d : A) → i < length xs → w (get_or xs i d) ≡ ops.zero) → weighted w k xs ≡ ops.zero
  unfolding weighted
  weighted-zero w k [] none = refl
  weighted-zero w k (x ∷ xs) none =
      ap (λ z. ops.plus (ops.times z (power ops x k)) (weighted w k xs)) (none 0 x (omega arith))
      ∙ ap (λ z. ops.plus z (weighted w k xs)) (zero_times ops ring (power ops x k))
      ∙ zero_plus ops ring (weighted w k xs)
      ∙ weighted-zero w k xs (λ i d lt. none (suc i) d (omega arith))

  -- each weight times y + x, for the element y that has it
  abbrev moved : (A → A) → A → A → A
  moved w x y = ops.times (w y) (ops.plus y x)

  -- one term of the sum with these weights
  moved_term : (w : A → A) (x y p : A) → ops.times (moved w x y) p ≡ ops.plus (ops.times (w y) (ops.times p y)) (ops.times x (ops.times (w y) p))
  moved_term w x y p =
      ring.times_assoc (w y) (ops.plus y x) p
      ∙ ap (ops.times (w y)) (distributes_left ops ring y x p)
      ∙ ring.distributes (w y) (ops.times y p) (ops.times x p)
      ∙ ap (λ z. ops.plus (ops.times (w y) z) (ops.times (w y) (ops.times x p))) (ring.times_comm y p)
      ∙ ap (ops.plus (ops.times (w y) (ops.times p y))) (sym (ring.times_assoc (w y) x p) ∙ ap (λ z. ops.times z p) (ring.times_comm (w y) x) ∙ ring.times_assoc x (w y) p)

  -- the sum with these weights
  weighted-moved : (w : A → A) (x : A) (k : ℕ) (ys : List A) → weighted (moved w x) k ys ≡ ops.plus (weighted w (suc k) ys) (ops.times x (weighted w k ys))
  unfolding weighted power
  weighted-moved w x k [] = sym (zero_plus ops ring (ops.times x ops.zero) ∙ times_zero ops ring x)
  weighted-moved w x k (y ∷ ys) =
      ap (λ z. ops.plus z (weighted (moved w x) k ys)) (moved_term w x y (power ops y k))
      ∙ ap (ops.plus (ops.plus (ops.times (w y) (ops.times (power ops y k) y)) (ops.times x (ops.times (w y) (power ops y k))))) (weighted-moved w x k ys)
      ∙ plus_swap ops ring (ops.times (w y) (ops.times (power ops y k) y)) (ops.times x (ops.times (w y) (power ops y k))) (weighted w (suc k) ys) (ops.times x (weighted w k ys))
      ∙ ap (ops.plus (ops.plus (ops.times (w y) (ops.times (power ops y k) y)) (weighted w (suc k) ys))) (sym (ring.distributes x (ops.times (w y) (power ops y k)) (weighted w k ys)))

  -- x itself has no weight then, so the sums over the others are zero one power less far
  rest_sums : (w : A → A) (x : A) (xs : List A) → ((k : ℕ) → k < length (x ∷ xs) → weighted w k (x ∷ xs) ≡ ops.zero)
      → (k : ℕ) → k < length xs → weighted (moved w x) k xs ≡ ops.zero
  rest_sums w x xs none k lt =
      sym (weighted-cons (moved w x) k x xs ∙ ap (λ z. ops.plus (ops.times z (power ops x k)) (weighted (moved w x) k xs)) own ∙ ap (λ z. ops.plus z (weighted (moved w x) k xs)) (zero_times ops ring (power ops x k)) ∙ zero_plus ops ring (weighted (moved w x) k xs))
      ∙ weighted-moved w x k (x ∷ xs)
      ∙ ap (λ z. ops.plus z (ops.times x (weighted w k (x ∷ xs)))) (none (suc k) (omega arith))
      ∙ ap (λ z. ops.plus ops.zero (ops.times x z)) (none k (omega arith))
      ∙ zero_plus ops ring (ops.times x ops.zero)
      ∙ times_zero ops ring x
    where
      own : moved w x x ≡ ops.zero
      own = ap (ops.times (w x)) (ring.plus_self x) ∙ times_zero ops ring (w x)

  -- where the others have no weight, the sum of the powers 0 leaves the weight of the first
  first_weight : (w : A → A) (x : A) (xs : List A) → ((i : ℕ) (d : A) → i < length xs → w (get_or xs i d) ≡ ops.zero) → weighted w 0 (x ∷ xs) ≡ ops.zero → w x ≡ ops.zero
  unfolding power
  first_weight w x xs others none =
      sym (ring.times_one (w x))
      ∙ sym (ring.plus_zero (ops.times (w x) ops.one))
      ∙ ap (ops.plus (ops.times (w x) ops.one)) (sym (weighted-zero w 0 xs others))
      ∙ sym (weighted-cons w 0 x xs)
      ∙ none

  -- an element other than x whose weight times its sum with x is zero
  other_weight : ((a b : A) → ops.times a b ≡ ops.zero → (a ≡ ops.zero) ⊎ (b ≡ ops.zero)) → (w : A → A) (x y : A) → x ≢ y → moved w x y ≡ ops.zero → w y ≡ ops.zero
  other_weight no_zero_divisor w x y differ none = by_factor (no_zero_divisor (w y) (ops.plus y x) none)
    where
      by_factor : (w y ≡ ops.zero) ⊎ (ops.plus y x ≡ ops.zero) → w y ≡ ops.zero
      by_factor (inl zero_weight) = zero_weight
      by_factor (inr same) = absurd (differ (sym (same_of_sum ops ring y x same)))

  -- the first, and those after it
  each_weight : (w : A → A) (x : A) (xs : List A) → weighted w 0 (x ∷ xs) ≡ ops.zero → ((i : ℕ) (d : A) → i < length xs → w (get_or xs i d) ≡ ops.zero)
      → (i : ℕ) (d : A) → i < length (x ∷ xs) → w (get_or (x ∷ xs) i d) ≡ ops.zero
  each_weight w x xs none others zero d lt = first_weight w x xs others none
  each_weight w x xs none others (suc i) d lt = others i d (omega arith)

  -- where as many of these sums as there are elements are zero, from the power 0 on, each weight is zero: a Vandermonde
  -- system has one solution
  pub lone_weight : (no_zero_divisor : (a b : A) → ops.times a b ≡ ops.zero → (a ≡ ops.zero) ⊎ (b ≡ ops.zero))
      → (w : A → A) (xs : List A) → AreDistinct xs → ((k : ℕ) → k < length xs → weighted w k xs ≡ ops.zero)
      → (i : ℕ) (d : A) → i < length xs → w (get_or xs i d) ≡ ops.zero
  lone_weight no_zero_divisor w [] differ none = λ i d lt. absurd (omega arith)
  lone_weight no_zero_divisor w (x ∷ xs) differ none = each_weight w x xs (none 0 (omega arith))
      (λ i d lt. other_weight no_zero_divisor w x (get_or xs i d) (differ 0 (suc i) d (omega arith) (omega arith))
      (lone_weight no_zero_divisor (moved w x) xs (λ i j d below within. differ (suc i) (suc j) d (omega arith) (omega arith)) (rest_sums w x xs none) i d lt))
