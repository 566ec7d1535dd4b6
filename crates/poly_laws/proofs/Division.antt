-- Long division by a monic polynomial, one step at a time, and that there is a remainder.
use Rattle.std.proofs.Common.{◌≡◌, ◌⊎◌, inl, inr, ℕ, zero, suc, ◌+◌, ◌<◌, ◌≤◌, List, [], ◌∷◌, ◌++◌, length, take, replicate, refl, sym, ap, subst, ◌∙◌, arith}
use Rattle.std.proofs.lemmas.List.{take_more, take_all, get_or_past, length-take-le, length-map, map-append}
use Rattle.field_rules.specs.Ops.{Ops, IsRing}
use Rattle.field_rules.specs.Fields.{with_multiple}
use Rattle.poly_rules.specs.Polynomials.{coefficient, IsSamePolynomial, IsMonic, sum_of, scalar_multiple, product_of}
use Rattle.poly_rules.specs.Remainders.{IsRemainder}
use Rattle.poly_laws.specs.Rests.{IsRest, IsQuotient}
use Rattle.field_laws.proofs.RingFacts.{zero_plus, plus_again}
use Rattle.poly_laws.proofs.Elements.{plus_turn}
use Rattle.poly_laws.proofs.Sums.{same_self, same_back, same_along, same_of, same_cons, coefficient-sum, sum_none, sum_none_same, sum_same, sum_assoc}
use Rattle.poly_laws.proofs.Products.{product_sum_l, product_same_l, product_shift, product_term}
use Rattle.poly_laws.proofs.Remainders.{monic-split, small_multiple, rest_self, rest_along, remainder_of_rest}

module _ {A : Type 0} (ops : Ops A) where
  -- a sum with a list that is no longer has the length of the first
  pub length-sum : (f g : List A) → length g ≤ length f → length (sum_of ops f g) ≡ length f
  unfolding sum_of
  length-sum [] [] le = refl
  length-sum [] (b ∷ g) le = absurd (omega arith)
  length-sum (a ∷ f) [] le = refl
  length-sum (a ∷ f) (b ∷ g) le = ap suc (length-sum f g (omega arith))

  -- and the other way about
  pub length-sum-r : (f g : List A) → length f ≤ length g → length (sum_of ops f g) ≡ length g
  unfolding sum_of
  length-sum-r [] g le = refl
  length-sum-r (a ∷ f) [] le = absurd (omega arith)
  length-sum-r (a ∷ f) (b ∷ g) le = ap suc (length-sum-r f g (omega arith))

  -- adding a multiple item by item is a sum
  pub with_multiple-sum : (k : A) (acc xs : List A) → length xs ≤ length acc → with_multiple ops acc k xs ≡ sum_of ops acc (scalar_multiple ops k xs)
  unfolding with_multiple sum_of
  with_multiple-sum k [] [] le = refl
  with_multiple-sum k [] (x ∷ xs) le = absurd (omega arith)
  with_multiple-sum k (a ∷ acc) [] le = refl
  with_multiple-sum k (a ∷ acc) (x ∷ xs) le = ap (λ z. ops.plus a (ops.times k x) ∷ z) (with_multiple-sum k acc xs (omega arith))

module _ {A : Type 0} (ops : Ops A) (ring : IsRing ops) where
  -- a sum at whose start one of the two has nothing
  sum_behind : (u f g : List A) → IsSamePolynomial ops (sum_of ops (replicate (length u) ops.zero ++ f) (u ++ g)) (u ++ sum_of ops f g)
  unfolding sum_of
  sum_behind [] f g = same_self ops (sum_of ops f g)
  sum_behind (a ∷ u) f g = same_cons ops (ops.plus ops.zero a) a (zero_plus ops ring a) (sum_behind u f g)

  -- what is added to the lower coefficients is taken away again
  sum_back : (k top : A) (l t : List A) → length t ≡ length l → IsSamePolynomial ops (sum_of ops (scalar_multiple ops k l ++ top ∷ []) (sum_of ops t (scalar_multiple ops k l))) (t ++ top ∷ [])
  unfolding sum_of
  sum_back k top [] [] e = same_self ops (top ∷ [])
  sum_back k top [] (a ∷ t) e = absurd (omega arith)
  sum_back k top (b ∷ l) [] e = absurd (omega arith)
  sum_back k top (b ∷ l) (a ∷ t) e =
      same_cons ops (ops.plus (ops.times k b) (ops.plus a (ops.times k b))) a
      (plus_turn ops ring (ops.times k b) a (ops.times k b) ∙ ap (ops.plus a) (ring.plus_self (ops.times k b)) ∙ ring.plus_zero a)
      (sum_back k top l t (omega arith))

  -- one step: the highest coefficient k goes into the quotient, and k times f's lower coefficients are added to the n below
  -- it
  division_exact : (n : ℕ) (f u t : List A) (k : A) → IsMonic ops n f → length t ≡ n
      → IsSamePolynomial ops (u ++ (t ++ k ∷ [])) (sum_of ops (product_of ops (replicate (length u) ops.zero ++ k ∷ []) f) (u ++ sum_of ops t (scalar_multiple ops k (take n f))))
  division_exact n f u t k monic size =
      same_back ops (same_along ops (sum_same ops ring shifted (same_self ops (u ++ sum_of ops t (scalar_multiple ops k (take n f)))))
      (same_along ops (sum_behind u (scalar_multiple ops k (take n f) ++ k ∷ []) (sum_of ops t (scalar_multiple ops k (take n f)))) (under u (sum_back k k (take n f) t even))))
    where
      even : length t ≡ length (take n f)
      even = size ∙ sym (length-take-le n f (omega (arith, monic.size)))

      parts : scalar_multiple ops k f ≡ scalar_multiple ops k (take n f) ++ k ∷ []
      parts =
          ap (scalar_multiple ops k) (monic-split ops n f monic)
          ∙ map-append (λ a. ops.times k a) (take n f) (ops.one ∷ [])
          ∙ ap (λ z. scalar_multiple ops k (take n f) ++ z ∷ []) (ring.times_one k)

      shifted : IsSamePolynomial ops (product_of ops (replicate (length u) ops.zero ++ k ∷ []) f) (replicate (length u) ops.zero ++ (scalar_multiple ops k (take n f) ++ k ∷ []))
      shifted = same_along ops (product_term ops ring (length u) k f) (same_of ops (ap (λ z. replicate (length u) ops.zero ++ z) parts))

      under : (v : List A) {g h : List A} → IsSamePolynomial ops g h → IsSamePolynomial ops (v ++ g) (v ++ h)
      under [] e = e
      under (a ∷ v) e = same_cons ops a a refl (under v e)

  -- so it leaves a rest
  division_step : (n : ℕ) (f u t : List A) (k : A) → IsMonic ops n f → length t ≡ n
      → IsRest ops f (u ++ (t ++ k ∷ [])) (u ++ sum_of ops t (scalar_multiple ops k (take n f)))
  division_step n f u t k monic size = record { quotient = replicate (length u) ops.zero ++ k ∷ []; divides = division_exact n f u t k monic size }

  -- a term goes where there is none
  term_joined : (m : ℕ) (k : A) (above : List A) → IsSamePolynomial ops (sum_of ops (replicate m ops.zero ++ ops.zero ∷ above) (replicate m ops.zero ++ k ∷ [])) (replicate m ops.zero ++ k ∷ above)
  unfolding sum_of
  term_joined zero k above = same_cons ops (ops.plus ops.zero k) k (zero_plus ops ring k) (same_of ops (sum_none ops ring above))
  term_joined (suc m) k above = same_cons ops (ops.plus ops.zero ops.zero) ops.zero (ring.plus_zero ops.zero) (term_joined m k above)

  -- what is divided stays the sum of the quotient so far, whose terms are above, times f, and of what is left
  pub quotient_step : (n : ℕ) (a f u t above : List A) (k : A) → IsMonic ops n f → length t ≡ n
      → IsSamePolynomial ops a (sum_of ops (product_of ops (replicate (length u) ops.zero ++ ops.zero ∷ above) f) (u ++ (t ++ k ∷ [])))
      → IsSamePolynomial ops a (sum_of ops (product_of ops (replicate (length u) ops.zero ++ k ∷ above) f) (u ++ sum_of ops t (scalar_multiple ops k (take n f))))
  quotient_step n a f u t above k monic size so_far =
      same_along ops so_far
      (same_along ops (sum_same ops ring (same_self ops (product_of ops high f)) (division_exact n f u t k monic size))
      (same_along ops (same_back ops (sum_assoc ops ring (product_of ops high f) (product_of ops term f) rest))
      (sum_same ops ring (same_along ops (same_back ops (product_sum_l ops ring high term f)) (product_same_l ops ring f (term_joined (length u) k above))) (same_self ops rest))))
    where
      high : List A
      high = replicate (length u) ops.zero ++ ops.zero ∷ above

      term : List A
      term = replicate (length u) ops.zero ++ k ∷ []

      rest : List A
      rest = u ++ sum_of ops t (scalar_multiple ops k (take n f))

  -- the quotient of a product by one factor is the other
  pub quotient_of_product : (n : ℕ) (a f g q : List A) → IsMonic ops n f → IsSamePolynomial ops a (product_of ops g f) → IsQuotient ops a f q → IsSamePolynomial ops q g
  quotient_of_product n a f g q monic exact h =
      sum_none_same ops ring q g
      (small_multiple ops ring n f monic (sum_of ops q g) (λ i le. left.each i ∙ get_or_past h.rest i ops.zero (omega (arith, h.short, monic.size))))
    where
      left : IsSamePolynomial ops (product_of ops (sum_of ops q g) f) h.rest
      left = same_along ops (product_sum_l ops ring q g f) (record {
        each = λ i.
            (coefficient-sum ops ring (product_of ops q f) (product_of ops g f) i
            ∙ ap (ops.plus (coefficient ops (product_of ops q f) i)) (sym (exact.each i) ∙ h.divides.each i ∙ coefficient-sum ops ring (product_of ops q f) h.rest i)
            ∙ plus_again ops ring (coefficient ops (product_of ops q f) i) (coefficient ops h.rest i));
      })

  -- the rest of x times a polynomial, with a constant
  rest_cons : (f p r : List A) (a : A) → IsRest ops f p r → IsRest ops f (a ∷ p) (a ∷ r)
  unfolding sum_of
  rest_cons f p r a h = record {
    quotient = ops.zero ∷ h.quotient;
    divides =
        same_along ops (same_cons ops a (ops.plus ops.zero a) (sym (zero_plus ops ring a)) h.divides)
        (sum_same ops ring {g = a ∷ r} (same_back ops (product_shift ops ring h.quotient f)) (same_self ops (a ∷ r)));
  }

  -- each polynomial has a rest of at most n coefficients
  rest_exists : (n : ℕ) (f : List A) → IsMonic ops n f → (p : List A) → (r : List A) × IsRest ops f p r × (length r ≤ n)
  rest_exists n f monic [] = ([], rest_self ops ring f [], omega arith)
  rest_exists n f monic (a ∷ p) = grown (rest_exists n f monic p)
    where
      grown : (r : List A) × IsRest ops f p r × (length r ≤ n) → (r : List A) × IsRest ops f (a ∷ p) r × (length r ≤ n)
      grown (r, h, short) = by_size (cases (length r) n)
        where
          cases : (i m : ℕ) → (i < m) ⊎ (m ≤ i)
          cases i m = grind arith

          reduced : n ≤ length r → (s : List A) × IsRest ops f (a ∷ p) s × (length s ≤ n)
          reduced long = (sum_of ops (take n (a ∷ r)) (scalar_multiple ops (coefficient ops (a ∷ r) n) (take n f)), whole, omega (arith, size))
            where
              split : a ∷ r ≡ take n (a ∷ r) ++ coefficient ops (a ∷ r) n ∷ []
              split =
                  sym (take_all (n + 1) (a ∷ r) (omega arith))
                  ∙ take_more (a ∷ r) n ops.zero (omega arith)

              low : length (take n (a ∷ r)) ≡ n
              low = length-take-le n (a ∷ r) (omega arith)

              size : length (sum_of ops (take n (a ∷ r)) (scalar_multiple ops (coefficient ops (a ∷ r) n) (take n f))) ≡ n
              size =
                  length-sum ops (take n (a ∷ r)) (scalar_multiple ops (coefficient ops (a ∷ r) n) (take n f))
                  (omega (arith, low, length-map (take n f) (λ b. ops.times (coefficient ops (a ∷ r) n) b), length-take-le n f (omega (arith, monic.size))))
                  ∙ low

              whole : IsRest ops f (a ∷ p) (sum_of ops (take n (a ∷ r)) (scalar_multiple ops (coefficient ops (a ∷ r) n) (take n f)))
              whole =
                  rest_along ops ring f (a ∷ p) (a ∷ r) (sum_of ops (take n (a ∷ r)) (scalar_multiple ops (coefficient ops (a ∷ r) n) (take n f)))
                  (rest_cons f p r a h)
                  (subst (λ z. IsRest ops f z (sum_of ops (take n (a ∷ r)) (scalar_multiple ops (coefficient ops (a ∷ r) n) (take n f)))) (sym split)
                  (division_step n f [] (take n (a ∷ r)) (coefficient ops (a ∷ r) n) monic low))

          by_size : (length r < n) ⊎ (n ≤ length r) → (s : List A) × IsRest ops f (a ∷ p) s × (length s ≤ n)
          by_size (inl lt) = (a ∷ r, rest_cons f p r a h, omega arith)
          by_size (inr long) = reduced long

  -- there is a remainder by a monic polynomial
  pub remainder_exists : (n : ℕ) (f p : List A) → IsMonic ops n f → (r : List A) × IsRemainder ops p f r
  remainder_exists n f p monic = made (rest_exists n f monic p)
    where
      made : (r : List A) × IsRest ops f p r × (length r ≤ n) → (r : List A) × IsRemainder ops p f r
      made (r, h, short) = (r, remainder_of_rest ops ring n f p r monic h short)
