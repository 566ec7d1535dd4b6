-- Inverses: a ^ (2 ^ n - 2), where a ^ (2 ^ n) is a and only 0 and 1 are their own squares.
use Rattle.std.proofs.Common.{◌≡◌, ◌≢◌, ◌⊎◌, inl, inr, ℕ, zero, suc, ◌+◌, refl, sym, ap, ◌∙◌, add-one, arith}
use Rattle.field_rules.specs.Ops.{Ops, IsRing}
use Rattle.field_rules.specs.Fields.{conjugate}
use Rattle.field_laws.proofs.RingFacts.{one_times, times_zero, same_of_sum, times_swap}
use Rattle.field_laws.proofs.Conjugates.{conjugate-next, conjugate-times, conjugate-one, conjugate-runs}

-- the product of a, a ^ 2, a ^ 4, .. of n factors, which is a ^ (2 ^ n - 1)
unfoldable pub norm_of : {A : Type 0} → Ops A → ℕ → A → A
norm_of ops zero a = ops.one
norm_of ops (suc n) a = ops.times (norm_of ops n a) (conjugate ops n a)

module _ {A : Type 0} (ops : Ops A) (ring : IsRing ops) where
  -- no factor gives 1
  pub norm_of-none : (a : A) → norm_of ops 0 a ≡ ops.one
  unfolding norm_of
  norm_of-none a = refl

  -- one factor more
  pub norm_of-next : (n : ℕ) (a : A) → norm_of ops (suc n) a ≡ ops.times (norm_of ops n a) (conjugate ops n a)
  unfolding norm_of
  norm_of-next n a = refl

  -- one factor more of the norm of the square, as code counts
  pub norm_of-more : (n : ℕ) (a s p : A) → s ≡ norm_of ops n (ops.times a a) → p ≡ conjugate ops (n + 1) a → ops.times s p ≡ norm_of ops (n + 1) (ops.times a a)
  unfolding conjugate
  norm_of-more n a s p product_is power_is =
      ap (λ z. ops.times z p) product_is
      ∙ ap (ops.times (norm_of ops n (ops.times a a))) (power_is ∙ ap (λ k. conjugate ops k a) (add-one n))
      ∙ sym (norm_of-next n (ops.times a a))
      ∙ ap (λ k. norm_of ops k (ops.times a a)) (sym (add-one n))

  -- the first factor, and those of the square
  pub norm_of-first : (n : ℕ) (a : A) → ops.times a (norm_of ops n (ops.times a a)) ≡ norm_of ops (suc n) a
  unfolding norm_of conjugate
  norm_of-first zero a = ring.times_comm a ops.one
  norm_of-first (suc n) a =
      sym (ring.times_assoc a (norm_of ops n (ops.times a a)) (conjugate ops n (ops.times a a)))
      ∙ ap (λ z. ops.times z (conjugate ops n (ops.times a a))) (norm_of-first n a)

  -- the factors in two runs
  pub norm_of-runs : (i j : ℕ) (a : A) → norm_of ops (j + i) a ≡ ops.times (conjugate ops j (norm_of ops i a)) (norm_of ops j a)
  unfolding norm_of
  norm_of-runs zero j a =
      let whole : j + zero ≡ j = omega arith in
      ap (λ n. norm_of ops n a) whole ∙ sym (one_times ops ring (norm_of ops j a)) ∙ ap (λ z. ops.times z (norm_of ops j a)) (sym (conjugate-one ops ring j))
  norm_of-runs (suc i) j a =
      let index : j + suc i ≡ suc (j + i) = omega arith in
      ap (λ n. norm_of ops n a) index
      ∙ ap (ops.times (norm_of ops (j + i) a)) (conjugate-runs ops i j a)
      ∙ ap (λ z. ops.times z (conjugate ops j (conjugate ops i a))) (norm_of-runs i j a)
      ∙ ring.times_assoc (conjugate ops j (norm_of ops i a)) (norm_of ops j a) (conjugate ops j (conjugate ops i a))
      ∙ ap (ops.times (conjugate ops j (norm_of ops i a))) (ring.times_comm (norm_of ops j a) (conjugate ops j (conjugate ops i a)))
      ∙ sym (ring.times_assoc (conjugate ops j (norm_of ops i a)) (conjugate ops j (conjugate ops i a)) (norm_of ops j a))
      ∙ ap (λ z. ops.times z (norm_of ops j a)) (sym (conjugate-times ops ring j (norm_of ops i a) (conjugate ops i a)))

  -- a run behind another, as code has it
  pub norm_of-joined : (i j n : ℕ) (a p q s r : A) → j + i ≡ n → p ≡ norm_of ops i a → q ≡ conjugate ops j p → s ≡ norm_of ops j a → r ≡ ops.times q s → r ≡ norm_of ops n a
  norm_of-joined i j n a p q s r index p_is q_is s_is r_is =
      r_is ∙ ap (λ z. ops.times z s) (q_is ∙ ap (conjugate ops j) p_is) ∙ ap (ops.times (conjugate ops j (norm_of ops i a))) s_is ∙ sym (norm_of-runs i j a) ∙ ap (λ k. norm_of ops k a) index

  -- one factor
  pub norm_of-one : (a : A) → norm_of ops 1 a ≡ a
  unfolding norm_of conjugate
  norm_of-one a = one_times ops ring a

  -- the factors of the square are the square of the factors
  pub norm_of-square : (n : ℕ) (a : A) → norm_of ops n (ops.times a a) ≡ ops.times (norm_of ops n a) (norm_of ops n a)
  unfolding norm_of
  norm_of-square zero a = sym (ring.times_one ops.one)
  norm_of-square (suc n) a =
      ap (λ z. ops.times z (conjugate ops n (ops.times a a))) (norm_of-square n a)
      ∙ ap (ops.times (ops.times (norm_of ops n a) (norm_of ops n a))) (conjugate-times ops ring n a a)
      ∙ times_swap ops ring (norm_of ops n a) (norm_of ops n a) (conjugate ops n a) (conjugate ops n a)

  -- a ^ (2 ^ n) is a times a ^ (2 ^ n - 1)
  pub conjugate-norm : (n : ℕ) (a : A) → conjugate ops n a ≡ ops.times a (norm_of ops n a)
  unfolding conjugate norm_of
  conjugate-norm zero a = sym (ring.times_one a)
  conjugate-norm (suc n) a =
      conjugate-next ops n a
      ∙ ap (λ z. ops.times z (conjugate ops n a)) (conjugate-norm n a)
      ∙ ring.times_assoc a (norm_of ops n a) (conjugate ops n a)
      ∙ ap (ops.times a) (sym (norm_of-next n a))

  -- the last conjugate of a, by its factors
  own_power : (m : ℕ) (a : A) → conjugate ops (suc m) a ≡ a → a ≡ ops.times a (ops.times a (norm_of ops m (ops.times a a)))
  own_power m a returns = sym returns ∙ conjugate-norm (suc m) a ∙ ap (ops.times a) (sym (norm_of-first m a))

  -- so a times a ^ (2 ^ n - 2) is its own square
  own_square : (m : ℕ) (a : A) → conjugate ops (suc m) a ≡ a
      → ops.times (ops.times a (norm_of ops m (ops.times a a))) (ops.times a (norm_of ops m (ops.times a a))) ≡ ops.times a (norm_of ops m (ops.times a a))
  own_square m a returns =
      ap (λ z. ops.times z (ops.times a (norm_of ops m (ops.times a a)))) (ring.times_comm a (norm_of ops m (ops.times a a)))
      ∙ ring.times_assoc (norm_of ops m (ops.times a a)) a (ops.times a (norm_of ops m (ops.times a a)))
      ∙ ap (ops.times (norm_of ops m (ops.times a a))) (sym (own_power m a returns))
      ∙ ring.times_comm (norm_of ops m (ops.times a a)) a

  -- and where only 0 and 1 are their own squares, it is 1
  pub inverse-is : ((e : A) → ops.times e e ≡ e → (e ≡ ops.zero) ⊎ (e ≡ ops.one)) → (m : ℕ) (a : A) → conjugate ops (suc m) a ≡ a → a ≢ ops.zero
      → ops.times a (norm_of ops m (ops.times a a)) ≡ ops.one
  inverse-is own m a returns nonzero = by (own (ops.times a (norm_of ops m (ops.times a a))) (own_square m a returns))
    where
      by : (ops.times a (norm_of ops m (ops.times a a)) ≡ ops.zero) ⊎ (ops.times a (norm_of ops m (ops.times a a)) ≡ ops.one) → ops.times a (norm_of ops m (ops.times a a)) ≡ ops.one
      by (inl none) = absurd (nonzero (own_power m a returns ∙ ap (ops.times a) none ∙ times_zero ops ring a))
      by (inr one) = one

  -- with an inverse for a, a product by a is 0 only where the other factor is
  pub zero_factor : (a b c : A) → ops.times a b ≡ ops.one → ops.times a c ≡ ops.zero → c ≡ ops.zero
  zero_factor a b c inverse none =
      sym (one_times ops ring c)
      ∙ ap (λ z. ops.times z c) (sym inverse ∙ ring.times_comm a b)
      ∙ ring.times_assoc b a c
      ∙ ap (ops.times b) none
      ∙ times_zero ops ring b

  -- where no product of nonzero elements is 0, only 0 and 1 are their own squares
  pub own_of_no_zero_divisor : ((a b : A) → ops.times a b ≡ ops.zero → (a ≡ ops.zero) ⊎ (b ≡ ops.zero)) → (e : A) → ops.times e e ≡ e → (e ≡ ops.zero) ⊎ (e ≡ ops.one)
  own_of_no_zero_divisor apart e own = by (apart e (ops.plus e ops.one) none)
    where
      none : ops.times e (ops.plus e ops.one) ≡ ops.zero
      none =
          ring.distributes e e ops.one
          ∙ ap (λ z. ops.plus z (ops.times e ops.one)) own
          ∙ ap (ops.plus e) (ring.times_one e)
          ∙ ring.plus_self e

      by : (e ≡ ops.zero) ⊎ (ops.plus e ops.one ≡ ops.zero) → (e ≡ ops.zero) ⊎ (e ≡ ops.one)
      by (inl none) = inl none
      by (inr same) = inr (same_of_sum ops ring e ops.one same)
