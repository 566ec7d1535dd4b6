-- Remainders by a monic polynomial: there is one, and it is kept by sums and products.
use Rattle.std.proofs.Common.{◌≡◌, ◌≢◌, ◌⊎◌, inl, inr, ℕ, zero, suc, ◌+◌, ◌<◌, ◌≤◌, List, [], ◌∷◌, ◌++◌, length, take, refl, sym, ap, ◌∙◌, arith, add-one}
use Rattle.std.proofs.lemmas.List.{get_or_past, ext_get_or, take_more, take_all}
use Rattle.field_rules.specs.Ops.{Ops, IsRing}
use Rattle.poly_rules.specs.Polynomials.{coefficient, degree, IsSamePolynomial, IsTrimmed, IsMonic, sum_of, scalar_multiple, product_of}
use Rattle.poly_rules.specs.Remainders.{IsRemainder}
use Rattle.poly_laws.specs.Rests.{IsRest}
use Rattle.field_laws.proofs.RingFacts.{zero_plus, times_zero}
use Rattle.poly_laws.proofs.Sums.{same_self, same_back, same_along, same_none, coefficient-sum, coefficient-scalar_multiple, sum_same, sum_assoc, sum_swap, sum_across, sum_none_same}
use Rattle.poly_laws.proofs.Products.{product_same_r, product_same_l, product_sum_r, product_sum_l, product_assoc, product_comm}

-- ---- trimmed lists

module _ {A : Type 0} (ops : Ops A) where
  -- a trimmed list is no longer than one that is the same polynomial
  pub trimmed-shortest : (f g : List A) → IsTrimmed ops f → IsSamePolynomial ops f g → length f ≤ length g
  trimmed-shortest f g trimmed same = go (length f) refl
    where
      go : (n : ℕ) → length f ≡ n → n ≤ length g
      go zero e = omega arith
      go (suc n) e = longer (cases n (length g))
        where
          cases : (i m : ℕ) → (m ≤ i) ⊎ (suc i ≤ m)
          cases i m = grind arith

          longer : (length g ≤ n) ⊎ (suc n ≤ length g) → suc n ≤ length g
          longer (inl short) = absurd (trimmed n (e ∙ sym (add-one n)) (same.each n ∙ get_or_past g n ops.zero short))
          longer (inr long) = long

  -- trimmed lists that are one polynomial are one list
  pub trimmed-same : (f g : List A) → IsTrimmed ops f → IsTrimmed ops g → IsSamePolynomial ops f g → f ≡ g
  trimmed-same f g trimmed_f trimmed_g same =
      ext_get_or ops.zero f g even (λ i lt. same.each i)
    where
      even : length f ≡ length g
      even = omega (arith, trimmed-shortest f g trimmed_f same, trimmed-shortest g f trimmed_g (same_back ops same))

  -- so is one that is monic
  pub monic-same : (f g : List A) → ops.one ≢ ops.zero → IsTrimmed ops f → IsMonic ops (degree g) g → IsSamePolynomial ops f g → f ≡ g
  monic-same f g apart trimmed monic same = trimmed-same f g trimmed not_zero same
    where
      not_zero : IsTrimmed ops g
      not_zero n e none =
          let at : n ≡ degree g = omega arith in
          apart (sym monic.top ∙ ap (coefficient ops g) (sym at) ∙ none)

  -- a monic polynomial is its lower coefficients and a one
  pub monic-split : (n : ℕ) (f : List A) → IsMonic ops n f → f ≡ take n f ++ ops.one ∷ []
  monic-split n f monic =
      let full : take (n + 1) f ≡ f = take_all (n + 1) f (omega (arith, monic.size)) in
      let lt : n < length f = omega (arith, monic.size) in
      sym full ∙ take_more f n ops.zero lt ∙ ap (λ z. take n f ++ z ∷ []) monic.top

  -- a sum is as short as its terms
  pub length-sum-below : (n : ℕ) (f g : List A) → length f < n → length g < n → length (sum_of ops f g) < n
  unfolding sum_of
  length-sum-below n [] g short_f short_g = short_g
  length-sum-below n (a ∷ f) [] short_f short_g = short_f
  length-sum-below zero (a ∷ f) (b ∷ g) short_f short_g = absurd (omega arith)
  length-sum-below (suc n) (a ∷ f) (b ∷ g) short_f short_g =
      let lower : length (sum_of ops f g) < n = length-sum-below n f g (omega arith) (omega arith) in omega arith

module _ {A : Type 0} (ops : Ops A) (ring : IsRing ops) where
  -- ---- one remainder

  -- a coefficient of the product, one index up
  product-next : (a : A) (q f : List A) (i : ℕ) → coefficient ops (product_of ops (a ∷ q) f) (suc i) ≡ ops.plus (ops.times a (coefficient ops f (suc i))) (coefficient ops (product_of ops q f) i)
  unfolding product_of
  product-next a q f i =
      coefficient-sum ops ring (scalar_multiple ops a f) (ops.zero ∷ product_of ops q f) (suc i)
      ∙ ap (λ z. ops.plus z (coefficient ops (product_of ops q f) i)) (coefficient-scalar_multiple ops ring a f (suc i))

  -- the same at any index, where the rest of the first factor is nothing
  product-last : (a : A) (q f : List A) (i : ℕ) → IsSamePolynomial ops q [] → coefficient ops (product_of ops (a ∷ q) f) i ≡ ops.times a (coefficient ops f i)
  unfolding product_of
  product-last a q f i none =
      coefficient-sum ops ring (scalar_multiple ops a f) (ops.zero ∷ product_of ops q f) i
      ∙ ap (ops.plus (coefficient ops (scalar_multiple ops a f) i)) ((same_none ops ops.zero refl (product_same_l ops ring f none)).each i)
      ∙ ring.plus_zero (coefficient ops (scalar_multiple ops a f) i)
      ∙ coefficient-scalar_multiple ops ring a f i

  -- a multiple of a monic polynomial with nothing from x ^ n on is that by nothing
  pub small_multiple : (n : ℕ) (f : List A) → IsMonic ops n f → (q : List A) → ((i : ℕ) → n ≤ i → coefficient ops (product_of ops q f) i ≡ ops.zero) → IsSamePolynomial ops q []
  small_multiple n f monic [] small = same_self ops []
  small_multiple n f monic (a ∷ q) small = joined (small_multiple n f monic q lower)
    where
      past : (i : ℕ) → n ≤ i → coefficient ops f (suc i) ≡ ops.zero
      past i le = get_or_past f (suc i) ops.zero (omega (arith, monic.size))

      lower : (i : ℕ) → n ≤ i → coefficient ops (product_of ops q f) i ≡ ops.zero
      lower i le =
          sym (zero_plus ops ring (coefficient ops (product_of ops q f) i))
          ∙ ap (λ z. ops.plus z (coefficient ops (product_of ops q f) i)) (sym (ap (ops.times a) (past i le) ∙ times_zero ops ring a))
          ∙ sym (product-next a q f i)
          ∙ small (suc i) (omega arith)

      joined : IsSamePolynomial ops q [] → IsSamePolynomial ops (a ∷ q) []
      joined rest = same_none ops a
          (sym (ring.times_one a) ∙ ap (ops.times a) (sym monic.top) ∙ sym (product-last a q f n rest) ∙ small n (omega arith))
          rest

  -- two rests below the degree are one polynomial
  pub rest_only : (n : ℕ) (f a r s : List A) → IsMonic ops n f → IsRest ops f a r → IsRest ops f a s → length r ≤ n → length s ≤ n → IsSamePolynomial ops r s
  unfolding product_of
  rest_only n f a r s monic h k short_r short_s =
      sum_none_same ops ring r s (same_along ops (same_back ops whole) (product_same_l ops ring f none))
    where
      whole : IsSamePolynomial ops (product_of ops (sum_of ops h.quotient k.quotient) f) (sum_of ops r s)
      whole =
          same_along ops (product_sum_l ops ring h.quotient k.quotient f)
          (sum_across ops ring (product_of ops h.quotient f) r (product_of ops k.quotient f) s (same_along ops (same_back ops h.divides) k.divides))

      small : (i : ℕ) → n ≤ i → coefficient ops (product_of ops (sum_of ops h.quotient k.quotient) f) i ≡ ops.zero
      small i le =
          whole.each i
          ∙ coefficient-sum ops ring r s i
          ∙ ap (λ z. ops.plus z (coefficient ops s i)) (get_or_past r i ops.zero (omega arith))
          ∙ ap (ops.plus ops.zero) (get_or_past s i ops.zero (omega arith))
          ∙ ring.plus_zero ops.zero

      none : IsSamePolynomial ops (sum_of ops h.quotient k.quotient) []
      none = small_multiple n f monic (sum_of ops h.quotient k.quotient) small

  rest_of : (f a r : List A) → IsRemainder ops a f r → IsRest ops f a r
  rest_of f a r h = record { quotient = h.quotient; divides = h.divides }

  -- remainders by a monic polynomial are one polynomial
  pub remainder_same : (n : ℕ) (f a r s : List A) → IsMonic ops n f → IsRemainder ops a f r → IsRemainder ops a f s → IsSamePolynomial ops r s
  remainder_same n f a r s monic h k =
      rest_only n f a r s monic (rest_of f a r h) (rest_of f a s k) (omega (arith, monic.size, h.below)) (omega (arith, monic.size, k.below))

  -- and one list, where they are trimmed
  pub remainder_only : (n : ℕ) (f a r s : List A) → IsMonic ops n f → IsRemainder ops a f r → IsRemainder ops a f s → IsTrimmed ops r → IsTrimmed ops s → r ≡ s
  remainder_only n f a r s monic h k trimmed_r trimmed_s =
      trimmed-same ops r s trimmed_r trimmed_s (remainder_same n f a r s monic h k)

  -- ---- rests

  -- a polynomial is a rest of itself
  pub rest_self : (f a : List A) → IsRest ops f a a
  unfolding product_of sum_of
  rest_self f a = record { quotient = []; divides = same_self ops a }

  -- what is the same polynomial as a rest is one, and has the same rests
  pub rest_same : (f a r s : List A) → IsRest ops f a r → IsSamePolynomial ops r s → IsRest ops f a s
  rest_same f a r s h e = record {
    quotient = h.quotient;
    divides = same_along ops h.divides (sum_same ops ring (same_self ops (product_of ops h.quotient f)) e);
  }

  pub rest_from : (f a b r : List A) → IsSamePolynomial ops a b → IsRest ops f b r → IsRest ops f a r
  rest_from f a b r e h = record { quotient = h.quotient; divides = same_along ops e h.divides }

  -- a rest of a rest is a rest
  pub rest_along : (f a r s : List A) → IsRest ops f a r → IsRest ops f r s → IsRest ops f a s
  rest_along f a r s h k = record {
    quotient = sum_of ops h.quotient k.quotient;
    divides =
        same_along ops h.divides
        (same_along ops (sum_same ops ring (same_self ops (product_of ops h.quotient f)) k.divides)
        (same_along ops (same_back ops (sum_assoc ops ring (product_of ops h.quotient f) (product_of ops k.quotient f) s))
        (sum_same ops ring (same_back ops (product_sum_l ops ring h.quotient k.quotient f)) (same_self ops s))));
  }

  -- the rest of a sum
  pub rest_sum : (f a r b s : List A) → IsRest ops f a r → IsRest ops f b s → IsRest ops f (sum_of ops a b) (sum_of ops r s)
  rest_sum f a r b s h k = record {
    quotient = sum_of ops h.quotient k.quotient;
    divides =
        same_along ops (sum_same ops ring h.divides k.divides)
        (same_along ops (sum_swap ops ring (product_of ops h.quotient f) r (product_of ops k.quotient f) s)
        (sum_same ops ring (same_back ops (product_sum_l ops ring h.quotient k.quotient f)) (same_self ops (sum_of ops r s))));
  }

  -- the rest of a multiple
  pub rest_times : (f a r b : List A) → IsRest ops f a r → IsRest ops f (product_of ops b a) (product_of ops b r)
  rest_times f a r b h = record {
    quotient = product_of ops b h.quotient;
    divides =
        same_along ops (product_same_r ops ring b h.divides)
        (same_along ops (product_sum_r ops ring b (product_of ops h.quotient f) r)
        (sum_same ops ring (same_back ops (product_assoc ops ring b h.quotient f)) (same_self ops (product_of ops b r))));
  }

  -- the rest of a product
  pub rest_product : (f a r b s : List A) → IsRest ops f a r → IsRest ops f b s → IsRest ops f (product_of ops a b) (product_of ops r s)
  rest_product f a r b s h k =
      rest_along f (product_of ops a b) (product_of ops a s) (product_of ops r s) (rest_times f b s a k)
      (rest_from f (product_of ops a s) (product_of ops s a) (product_of ops r s) (product_comm ops ring a s)
      (rest_same f (product_of ops s a) (product_of ops s r) (product_of ops r s) (rest_times f a r s h) (product_comm ops ring s r)))

  -- a rest below the degree is the remainder
  pub remainder_of_rest : (n : ℕ) (f a r : List A) → IsMonic ops n f → IsRest ops f a r → length r ≤ n → IsRemainder ops a f r
  remainder_of_rest n f a r monic h short = record {
    below = omega (arith, monic.size);
    quotient = h.quotient;
    divides = h.divides;
  }

  -- the remainder of a rest is that of the whole
  pub remainder_along : (f a b r : List A) → IsRest ops f a b → IsRemainder ops b f r → IsRemainder ops a f r
  remainder_along f a b r h k =
      let whole : IsRest ops f a r = rest_along f a b r h (rest_of f b r k) in
      record { below = k.below; quotient = whole.quotient; divides = whole.divides }

  -- one polynomial has the same remainders
  pub remainder_from : (f a b r : List A) → IsSamePolynomial ops a b → IsRemainder ops b f r → IsRemainder ops a f r
  remainder_from f a b r e h = record { below = h.below; quotient = h.quotient; divides = same_along ops e h.divides }

  -- the remainder of a product is that of the remainders' product
  pub remainder_product : (f a b r s t : List A) → IsRemainder ops a f r → IsRemainder ops b f s → IsRemainder ops (product_of ops r s) f t → IsRemainder ops (product_of ops a b) f t
  remainder_product f a b r s t h k whole =
      remainder_along f (product_of ops a b) (product_of ops r s) t (rest_product f a r b s (rest_of f a r h) (rest_of f b s k)) whole

  -- the remainder of a sum is the sum of the remainders
  pub remainder_sum : (f a b r s : List A) → IsRemainder ops a f r → IsRemainder ops b f s → IsRemainder ops (sum_of ops a b) f (sum_of ops r s)
  remainder_sum f a b r s h k =
      let whole : IsRest ops f (sum_of ops a b) (sum_of ops r s) = rest_sum f a r b s (rest_of f a r h) (rest_of f b s k) in
      record { below = length-sum-below ops (length f) r s h.below k.below; quotient = whole.quotient; divides = whole.divides }
