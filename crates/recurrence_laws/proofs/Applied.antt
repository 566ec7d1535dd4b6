-- The sum of products with a sequence, as a function of the polynomial whose coefficients are the factors.
use Rattle.std.proofs.Common.{◌≡◌, ℕ, zero, suc, ◌+◌, ◌-◌, ◌<◌, ◌≤◌, List, [], ◌∷◌, ◌++◌, length, take, drop, replicate, refl, sym, ap, ◌∙◌, arith}
use Rattle.std.proofs.lemmas.List.{drop-drop, drop-take}
use Rattle.field_rules.specs.Ops.{Ops, IsRing}
use Rattle.field_rules.specs.Fields.{dot_of}
use Rattle.poly_rules.specs.Polynomials.{coefficient, IsSamePolynomial, IsMonic, sum_of, scalar_multiple, product_of}
use Rattle.field_laws.proofs.RingFacts.{zero_plus, one_times, times_zero, zero_times, distributes_left, plus_swap}
use Rattle.poly_laws.proofs.Sums.{same_back, same_tail}

module _ {A : Type 0} (ops : Ops A) where
  -- with no sequence it is zero
  pub dot_of-nil : (f : List A) → dot_of ops f [] ≡ ops.zero
  unfolding dot_of
  dot_of-nil [] = refl
  dot_of-nil (a ∷ f) = refl

  -- only as many items count as there are factors
  pub dot_of-take : (n : ℕ) (f s : List A) → length f ≤ n → dot_of ops f (take n s) ≡ dot_of ops f s
  unfolding dot_of
  dot_of-take n [] s le = refl
  dot_of-take zero (a ∷ f) s le = absurd (omega arith)
  dot_of-take (suc n) (a ∷ f) [] le = refl
  dot_of-take (suc n) (a ∷ f) (x ∷ s) le = ap (ops.plus (ops.times a x)) (dot_of-take n f s (omega arith))

  -- from an index on, in the first n items
  pub dot_of-prefix : (k n : ℕ) (f s : List A) → k + length f ≤ n → dot_of ops f (drop k (take n s)) ≡ dot_of ops f (drop k s)
  dot_of-prefix k n f s le =
      let split : n ≡ k + (n - k) = omega arith in
      ap (λ z. dot_of ops f (drop k (take z s))) split
      ∙ ap (dot_of ops f) (drop-take k (n - k) s)
      ∙ dot_of-take (n - k) f (drop k s) (omega arith)

  -- the sums of products of f with the items of s from each index on
  abbrev pub dots_along : List A → List A → List A
  dots_along f [] = []
  dots_along f (x ∷ s) = dot_of ops f (x ∷ s) ∷ dots_along f s

  pub coefficient-dots_along : (f s : List A) (i : ℕ) → coefficient ops (dots_along f s) i ≡ dot_of ops f (drop i s)
  coefficient-dots_along f [] zero = sym (dot_of-nil f)
  coefficient-dots_along f [] (suc i) = sym (dot_of-nil f)
  coefficient-dots_along f (x ∷ s) zero = refl
  coefficient-dots_along f (x ∷ s) (suc i) = coefficient-dots_along f s i

module _ {A : Type 0} (ops : Ops A) (ring : IsRing ops) where
  dot_of-none : (f s : List A) → IsSamePolynomial ops f [] → dot_of ops f s ≡ ops.zero
  unfolding dot_of
  dot_of-none [] s e = refl
  dot_of-none (a ∷ f) [] e = refl
  dot_of-none (a ∷ f) (x ∷ s) e =
      ap (λ z. ops.plus (ops.times z x) (dot_of ops f s)) (e.each zero)
      ∙ ap (λ z. ops.plus z (dot_of ops f s)) (zero_times ops ring x)
      ∙ zero_plus ops ring (dot_of ops f s)
      ∙ dot_of-none f s (same_tail ops e)

  -- one polynomial gives one sum
  pub dot_of-same : (f g s : List A) → IsSamePolynomial ops f g → dot_of ops f s ≡ dot_of ops g s
  unfolding dot_of
  dot_of-same [] g s e = sym (dot_of-none g s (same_back ops e))
  dot_of-same (a ∷ f) [] s e = dot_of-none (a ∷ f) s e
  dot_of-same (a ∷ f) (b ∷ g) [] e = refl
  dot_of-same (a ∷ f) (b ∷ g) (x ∷ s) e =
      ap (λ z. ops.plus (ops.times z x) (dot_of ops f s)) (e.each zero)
      ∙ ap (ops.plus (ops.times b x)) (dot_of-same f g s (record { each = λ i. e.each (suc i) }))

  pub dot_of-sum : (f g s : List A) → dot_of ops (sum_of ops f g) s ≡ ops.plus (dot_of ops f s) (dot_of ops g s)
  unfolding dot_of sum_of
  dot_of-sum [] g s = sym (zero_plus ops ring (dot_of ops g s))
  dot_of-sum (a ∷ f) [] s = sym (ring.plus_zero (dot_of ops (a ∷ f) s))
  dot_of-sum (a ∷ f) (b ∷ g) [] = sym (ring.plus_zero ops.zero)
  dot_of-sum (a ∷ f) (b ∷ g) (x ∷ s) =
      ap (λ z. ops.plus z (dot_of ops (sum_of ops f g) s)) (distributes_left ops ring a b x)
      ∙ ap (ops.plus (ops.plus (ops.times a x) (ops.times b x))) (dot_of-sum f g s)
      ∙ plus_swap ops ring (ops.times a x) (ops.times b x) (dot_of ops f s) (dot_of ops g s)

  pub dot_of-scalar_multiple : (k : A) (f s : List A) → dot_of ops (scalar_multiple ops k f) s ≡ ops.times k (dot_of ops f s)
  unfolding dot_of
  dot_of-scalar_multiple k [] s = sym (times_zero ops ring k)
  dot_of-scalar_multiple k (a ∷ f) [] = sym (times_zero ops ring k)
  dot_of-scalar_multiple k (a ∷ f) (x ∷ s) =
      ap (λ z. ops.plus z (dot_of ops (scalar_multiple ops k f) s)) (ring.times_assoc k a x)
      ∙ ap (ops.plus (ops.times k (ops.times a x))) (dot_of-scalar_multiple k f s)
      ∙ sym (ring.distributes k (ops.times a x) (dot_of ops f s))

  -- x times a polynomial meets the items one index further on
  pub dot_of-shift : (f s : List A) → dot_of ops (ops.zero ∷ f) s ≡ dot_of ops f (drop 1 s)
  unfolding dot_of
  dot_of-shift f [] = sym (dot_of-nil ops f)
  dot_of-shift f (x ∷ s) =
      ap (λ z. ops.plus z (dot_of ops f s)) (zero_times ops ring x) ∙ zero_plus ops ring (dot_of ops f s)

  pub dot_of-shifts : (m : ℕ) (f s : List A) → dot_of ops (replicate m ops.zero ++ f) s ≡ dot_of ops f (drop m s)
  dot_of-shifts zero f s = refl
  dot_of-shifts (suc m) f s =
      let one_more : 1 + m ≡ suc m = omega arith in
      dot_of-shift (replicate m ops.zero ++ f) s
      ∙ dot_of-shifts m f (drop 1 s)
      ∙ ap (dot_of ops f) (drop-drop m 1 s ∙ ap (λ z. drop z s) one_more)

  -- a product gives what its first factor makes of what its second gives along the sequence
  pub dot_of-product : (f g s : List A) → dot_of ops (product_of ops f g) s ≡ dot_of ops f (dots_along ops g s)
  unfolding dot_of product_of
  dot_of-product [] g s = refl
  dot_of-product (a ∷ f) g [] = dot_of-nil ops (product_of ops (a ∷ f) g)
  dot_of-product (a ∷ f) g (x ∷ s) =
      dot_of-sum (scalar_multiple ops a g) (ops.zero ∷ product_of ops f g) (x ∷ s)
      ∙ ap (λ z. ops.plus z (dot_of ops (ops.zero ∷ product_of ops f g) (x ∷ s))) (dot_of-scalar_multiple a g (x ∷ s))
      ∙ ap (ops.plus (ops.times a (dot_of ops g (x ∷ s)))) (dot_of-shift (product_of ops f g) (x ∷ s) ∙ dot_of-product f g s)

  -- zeros at all of its indices give zero
  pub dot_of-zeros : (f w : List A) → ((i : ℕ) → i < length f → coefficient ops w i ≡ ops.zero) → dot_of ops f w ≡ ops.zero
  unfolding dot_of
  dot_of-zeros [] w zeros = refl
  dot_of-zeros (a ∷ f) [] zeros = refl
  dot_of-zeros (a ∷ f) (x ∷ w) zeros =
      ap (λ z. ops.plus (ops.times a z) (dot_of ops f w)) (zeros zero (omega arith))
      ∙ ap (λ z. ops.plus z (dot_of ops f w)) (times_zero ops ring a)
      ∙ zero_plus ops ring (dot_of ops f w)
      ∙ dot_of-zeros f w (λ i lt. zeros (suc i) (omega arith))

  -- zeros below the degree of a monic polynomial leave the item there
  pub dot_of-top : (n : ℕ) (f w : List A) → IsMonic ops n f → ((i : ℕ) → i < n → coefficient ops w i ≡ ops.zero) → dot_of ops f w ≡ coefficient ops w n
  unfolding dot_of
  dot_of-top n [] w monic zeros = absurd (omega (arith, monic.size))
  dot_of-top zero (a ∷ f) [] monic zeros = refl
  dot_of-top zero (a ∷ []) (x ∷ w) monic zeros =
      ring.plus_zero (ops.times a x) ∙ ap (λ z. ops.times z x) monic.top ∙ one_times ops ring x
  dot_of-top zero (a ∷ b ∷ f) (x ∷ w) monic zeros = absurd (omega (arith, monic.size))
  dot_of-top (suc n) (a ∷ f) [] monic zeros = refl
  dot_of-top (suc n) (a ∷ f) (x ∷ w) monic zeros =
      ap (λ z. ops.plus (ops.times a z) (dot_of ops f w)) (zeros zero (omega arith))
      ∙ ap (λ z. ops.plus z (dot_of ops f w)) (times_zero ops ring a)
      ∙ zero_plus ops ring (dot_of ops f w)
      ∙ dot_of-top n f w (record { size = omega (arith, monic.size); top = monic.top }) (λ i lt. zeros (suc i) (omega arith))
