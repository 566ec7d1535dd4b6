-- Sums of odd powers, one element at a time.
use Rattle.std.proofs.Common.{◌≡◌, ℕ, zero, suc, ◌+◌, ◌*◌, List, [], ◌∷◌, ◌++◌, ◌<◌, length, get_or, take, replicate, refl, sym, ◌∙◌, ap, ap₂}
use Rattle.std.proofs.lemmas.List.{take_more}
use Rattle.field_rules.specs.Ops.{Ops, IsRing, power, with_odd_powers}
use Rattle.field_rules.specs.Lists.{sums_of_both}
use Rattle.sketch_rules.specs.PowerSums.{power_sum, odd_power_sums}

module _ {A : Type 0} (ops : Ops A) where
  -- the sums of no element are zeros
  sums_of_none : (i n : ℕ) → odd_power_sums ops [] i n ≡ replicate n ops.zero
  unfolding odd_power_sums power_sum
  sums_of_none i zero = refl
  sums_of_none i (suc n) = ap (λ rest. ops.zero ∷ rest) (sums_of_none (i + 1) n)

  -- a sum of powers grows by the power of an element that is put at the end
  power_sum-more : IsRing ops → (k : ℕ) (es : List A) (e : A) → ops.plus (power_sum ops k es) (power ops e k) ≡ power_sum ops k (es ++ e ∷ [])
  unfolding power_sum
  power_sum-more ring k [] e = ring.plus_comm ops.zero (power ops e k)
  power_sum-more ring k (d ∷ es) e =
      ring.plus_assoc (power ops d k) (power_sum ops k es) (power ops e k) ∙ ap (ops.plus (power ops d k)) (power_sum-more ring k es e)

  -- the sums of a list with an element at its end: those of the list, with the odd powers of the element
  pub odd_power_sums-more : IsRing ops → (es : List A) (e : A) (i n : ℕ) → with_odd_powers ops e i (odd_power_sums ops es i n) ≡ odd_power_sums ops (es ++ e ∷ []) i n
  unfolding odd_power_sums with_odd_powers
  odd_power_sums-more ring es e i zero = refl
  odd_power_sums-more ring es e i (suc n) =
      rw (power_sum-more ring (2 * i + 1) es e, odd_power_sums-more ring es e (i + 1) n) refl

  -- the element at index i taken in
  odd_power_sums-take : IsRing ops → (es : List A) (e : A) (i n : ℕ) → i < length es → e ≡ get_or es i e
      → with_odd_powers ops e 0 (odd_power_sums ops (take i es) 0 n) ≡ odd_power_sums ops (take (i + 1) es) 0 n
  odd_power_sums-take ring es e i n lt is =
      let next : take (i + 1) es ≡ take i es ++ e ∷ [] = take_more es i e lt ∙ ap (λ x. take i es ++ x ∷ []) (sym is) in
      odd_power_sums-more ring (take i es) e 0 n ∙ ap (λ xs. odd_power_sums ops xs 0 n) (sym next)

  -- zeros added
  zeros_added : IsRing ops → (xs : List A) → sums_of_both ops xs (replicate (length xs) ops.zero) ≡ xs
  unfolding sums_of_both
  zeros_added ring [] = refl
  zeros_added ring (x ∷ xs) = ap₂ (λ y ys. y ∷ ys) (ring.plus_zero x) (zeros_added ring xs)

  -- the sums of no element added
  pub both_none : IsRing ops → (xs : List A) → sums_of_both ops xs (odd_power_sums ops [] 0 (length xs)) ≡ xs
  both_none ring xs = ap (sums_of_both ops xs) (sums_of_none 0 (length xs)) ∙ zeros_added ring xs

  -- the odd powers of an element, added to the second list or to the sum
  with_odd_powers-both : IsRing ops → (e : A) (i : ℕ) (xs ys : List A) → with_odd_powers ops e i (sums_of_both ops xs ys) ≡ sums_of_both ops xs (with_odd_powers ops e i ys)
  unfolding sums_of_both with_odd_powers
  with_odd_powers-both ring e i [] ys = refl
  with_odd_powers-both ring e i (x ∷ xs) [] = refl
  with_odd_powers-both ring e i (x ∷ xs) (y ∷ ys) =
      ap₂ (λ z zs. z ∷ zs) (ring.plus_assoc x y (power ops e (2 * i + 1))) (with_odd_powers-both ring e (i + 1) xs ys)

  -- the element at index i taken in, where the sums are added to a list
  pub both-take : IsRing ops → (xs es : List A) (e : A) (i n : ℕ) → i < length es → e ≡ get_or es i e
      → with_odd_powers ops e 0 (sums_of_both ops xs (odd_power_sums ops (take i es) 0 n)) ≡ sums_of_both ops xs (odd_power_sums ops (take (i + 1) es) 0 n)
  both-take ring xs es e i n lt is =
      with_odd_powers-both ring e 0 xs (odd_power_sums ops (take i es) 0 n) ∙ ap (sums_of_both ops xs) (odd_power_sums-take ring es e i n lt is)

  -- the sums, added to zeros
  pub both_zeros : IsRing ops → (es : List A) (i n : ℕ) → sums_of_both ops (replicate n ops.zero) (odd_power_sums ops es i n) ≡ odd_power_sums ops es i n
  unfolding sums_of_both odd_power_sums
  both_zeros ring es i zero = refl
  both_zeros ring es i (suc n) =
      ap₂ (λ y ys. y ∷ ys) (ring.plus_comm ops.zero (power_sum ops (2 * i + 1) es) ∙ ring.plus_zero (power_sum ops (2 * i + 1) es)) (both_zeros ring es (i + 1) n)
