-- Conjugates: the power by 2 ^ n keeps sums and products.
use Rattle.std.proofs.Common.{◌≡◌, ℕ, zero, suc, ◌+◌, ◌^◌, refl, sym, ap, ◌∙◌, arith, add-one}
use Rattle.std.proofs.Math.Nat.{pow-suc}
use Rattle.field_rules.specs.Ops.{Ops, IsRing, power}
use Rattle.field_rules.specs.Fields.{conjugate}
use Rattle.field_laws.proofs.RingFacts.{one_times, square_plus, times_swap}

-- no squaring
pub conjugate-none : {A : Type 0} (ops : Ops A) (a : A) → conjugate ops 0 a ≡ a
unfolding conjugate
conjugate-none ops a = refl

-- one squaring more, as the last one
pub conjugate-next : {A : Type 0} (ops : Ops A) (n : ℕ) (a : A) → conjugate ops (suc n) a ≡ ops.times (conjugate ops n a) (conjugate ops n a)
unfolding conjugate
conjugate-next ops zero a = refl
conjugate-next ops (suc n) a = conjugate-next ops n (ops.times a a)

-- the square of a conjugate, as code counts
pub conjugate-more : {A : Type 0} (ops : Ops A) (n : ℕ) (a p : A) → p ≡ conjugate ops n a → ops.times p p ≡ conjugate ops (n + 1) a
conjugate-more ops n a p is = ap (λ z. ops.times z z) is ∙ sym (conjugate-next ops n a) ∙ ap (λ k. conjugate ops k a) (sym (add-one n))

-- squared i times, and then j times
pub conjugate-runs : {A : Type 0} (ops : Ops A) (i j : ℕ) (a : A) → conjugate ops (j + i) a ≡ conjugate ops j (conjugate ops i a)
unfolding conjugate
conjugate-runs ops zero j a = let whole : j + zero ≡ j = omega arith in ap (λ n. conjugate ops n a) whole
conjugate-runs ops (suc i) j a = let index : j + suc i ≡ suc (j + i) = omega arith in ap (λ n. conjugate ops n a) index ∙ conjugate-runs ops i j (ops.times a a)

module _ {A : Type 0} (ops : Ops A) (ring : IsRing ops) where
  -- the conjugate of a sum
  pub conjugate-plus : (n : ℕ) (a b : A) → conjugate ops n (ops.plus a b) ≡ ops.plus (conjugate ops n a) (conjugate ops n b)
  unfolding conjugate
  conjugate-plus zero a b = refl
  conjugate-plus (suc n) a b = ap (conjugate ops n) (square_plus ops ring a b) ∙ conjugate-plus n (ops.times a a) (ops.times b b)

  -- the conjugate of a product
  pub conjugate-times : (n : ℕ) (a b : A) → conjugate ops n (ops.times a b) ≡ ops.times (conjugate ops n a) (conjugate ops n b)
  unfolding conjugate
  conjugate-times zero a b = refl
  conjugate-times (suc n) a b = ap (conjugate ops n) (times_swap ops ring a b a b) ∙ conjugate-times n (ops.times a a) (ops.times b b)

  -- 1 is its own conjugate
  pub conjugate-one : (n : ℕ) → conjugate ops n ops.one ≡ ops.one
  unfolding conjugate
  conjugate-one zero = refl
  conjugate-one (suc n) = ap (conjugate ops n) (ring.times_one ops.one) ∙ conjugate-one n

  -- and so is 0
  pub conjugate-zero : (n : ℕ) → conjugate ops n ops.zero ≡ ops.zero
  unfolding conjugate
  conjugate-zero n = sym (ap (conjugate ops n) (ring.plus_self ops.zero)) ∙ conjugate-plus n ops.zero ops.zero ∙ ring.plus_self (conjugate ops n ops.zero)

  -- a power by a sum
  pub power-plus : (e : A) (j k : ℕ) → power ops e (j + k) ≡ ops.times (power ops e j) (power ops e k)
  unfolding power
  power-plus e zero k = let same : zero + k ≡ k = omega arith in rw same (sym (one_times ops ring (power ops e k)))
  power-plus e (suc j) k =
      let step : suc j + k ≡ suc (j + k) = omega arith in
      rw step (ap (λ z. ops.times z e) (power-plus e j k ∙ ring.times_comm (power ops e j) (power ops e k)) ∙ ring.times_assoc (power ops e k) (power ops e j) e ∙ ring.times_comm (power ops e k) (ops.times (power ops e j) e))

  -- a conjugate is a power
  pub conjugate-power : (n : ℕ) (a : A) → conjugate ops n a ≡ power ops a (2 ^ n)
  unfolding conjugate power
  conjugate-power zero a = sym (one_times ops ring a)
  conjugate-power (suc n) a =
      conjugate-next ops n a
      ∙ ap (λ z. ops.times z z) (conjugate-power n a)
      ∙ sym (power-plus a (2 ^ n) (2 ^ n))
      ∙ ap (power ops a) twice
    where
      twice : 2 ^ n + 2 ^ n ≡ 2 ^ suc n
      twice = omega (arith, pow-suc 2 n)
