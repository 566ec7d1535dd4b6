-- Roots of monic polynomials: each gives a factor, and there are no more of them than the degree.
use Rattle.std.proofs.Common.{◌≡◌, ◌≢◌, ◌⊎◌, inl, inr, ℕ, zero, suc, ◌+◌, ◌<◌, ◌≤◌, List, [], ◌∷◌, length, get_or, refl, sym, ap, ◌∙◌, arith}
use Rattle.std.proofs.lemmas.List.{length-map, get_or_past}
use Rattle.std.specs.List.{All}
use Rattle.field_rules.specs.Ops.{Ops, IsRing}
use Rattle.field_rules.specs.Lists.{AreDistinct}
use Rattle.poly_rules.specs.Polynomials.{coefficient, IsSamePolynomial, IsMonic, value_at, sum_of, scalar_multiple, product_of}
use Rattle.poly_rules.specs.Roots.{IsRoot, with_roots}
use Rattle.field_laws.proofs.RingFacts.{zero_plus, times_zero, zero_times, one_times, same_of_sum}
use Rattle.poly_laws.proofs.Elements.{plus_turn}
use Rattle.poly_laws.proofs.Sums.{same_self, same_back, same_along, same_of, same_cons, same_none, coefficient-sum, coefficient-scalar_multiple, sum_same, sum_comm, sum_none}
use Rattle.poly_laws.proofs.Products.{product_none, product_cons, product_same_r}
use Rattle.poly_laws.proofs.Division.{length-sum, length-sum-r}
use Rattle.poly_laws.proofs.Values.{value_at-same, value_at-product}

-- what is left of f, once its value at r is taken away and x + r is divided out
unfoldable pub quotient_at : {A : Type 0} → Ops A → A → List A → List A
quotient_at ops r [] = []
quotient_at ops r (a ∷ []) = []
quotient_at ops r (a ∷ b ∷ f) = value_at ops (b ∷ f) r ∷ quotient_at ops r (b ∷ f)

module _ {A : Type 0} (ops : Ops A) (ring : IsRing ops) where
  -- the value of x + r
  pub value_at-factor : (r x : A) → value_at ops (r ∷ ops.one ∷ []) x ≡ ops.plus r x
  unfolding value_at
  value_at-factor r x =
      ap (λ z. ops.plus r (ops.times x (ops.plus ops.one z))) (times_zero ops ring x)
      ∙ ap (λ z. ops.plus r (ops.times x z)) (ring.plus_zero ops.one)
      ∙ ap (ops.plus r) (ring.times_one x)

  -- the value of a product with x + r
  pub value_at-factored : (r : A) (q : List A) (x : A) → value_at ops (product_of ops (r ∷ ops.one ∷ []) q) x ≡ ops.times (ops.plus r x) (value_at ops q x)
  value_at-factored r q x = value_at-product ops ring (r ∷ ops.one ∷ []) q x ∙ ap (λ z. ops.times z (value_at ops q x)) (value_at-factor r x)

  -- one coefficient more
  quotient_step : (r a v : A) (q g : List A) → IsSamePolynomial ops g (sum_of ops (product_of ops (r ∷ ops.one ∷ []) q) (v ∷ []))
      → IsSamePolynomial ops (a ∷ g) (sum_of ops (product_of ops (r ∷ ops.one ∷ []) (v ∷ q)) (ops.plus a (ops.times r v) ∷ []))
  unfolding sum_of
  quotient_step r a v q g h = same_back ops
      (same_along ops
      (sum_same ops ring {g = ops.plus a (ops.times r v) ∷ []} (product_cons ops ring (r ∷ ops.one ∷ []) v q) (same_self ops (ops.plus a (ops.times r v) ∷ [])))
      (same_cons ops (ops.plus (ops.plus (ops.times v r) ops.zero) (ops.plus a (ops.times r v))) a first
      (same_along ops (same_of ops (sum_none ops ring (sum_of ops (ops.times v ops.one ∷ []) (product_of ops (r ∷ ops.one ∷ []) q))))
      (same_along ops
      (sum_same ops ring {f = ops.times v ops.one ∷ []} {f' = v ∷ []} (same_cons ops (ops.times v ops.one) v (ring.times_one v) (same_self ops [])) (same_self ops (product_of ops (r ∷ ops.one ∷ []) q)))
      (same_along ops (sum_comm ops ring (v ∷ []) (product_of ops (r ∷ ops.one ∷ []) q)) (same_back ops h))))))
    where
      first : ops.plus (ops.plus (ops.times v r) ops.zero) (ops.plus a (ops.times r v)) ≡ a
      first =
          ap (λ z. ops.plus z (ops.plus a (ops.times r v))) (ring.plus_zero (ops.times v r) ∙ ring.times_comm v r)
          ∙ plus_turn ops ring (ops.times r v) a (ops.times r v)
          ∙ ap (ops.plus a) (ring.plus_self (ops.times r v))
          ∙ ring.plus_zero a

  -- f is x + r times the quotient, and its value at r
  pub quotient_at-is : (r : A) (f : List A) → IsSamePolynomial ops f (sum_of ops (product_of ops (r ∷ ops.one ∷ []) (quotient_at ops r f)) (value_at ops f r ∷ []))
  unfolding quotient_at value_at sum_of
  quotient_at-is r [] =
      same_back ops (sum_same ops ring {f' = []} {g' = []} (product_none ops ring (r ∷ ops.one ∷ [])) (same_none ops ops.zero refl (same_self ops [])))
  quotient_at-is r (a ∷ []) = same_back ops
      (sum_same ops ring {f' = []} {g' = a ∷ []} (product_none ops ring (r ∷ ops.one ∷ []))
      (same_cons ops (ops.plus a (ops.times r ops.zero)) a (ap (ops.plus a) (times_zero ops ring r) ∙ ring.plus_zero a) (same_self ops [])))
  quotient_at-is r (a ∷ b ∷ f) =
      quotient_step r a (value_at ops (b ∷ f) r) (quotient_at ops r (b ∷ f)) (b ∷ f) (quotient_at-is r (b ∷ f))

  -- at a root, x + r divides f
  pub factor_of_root : (r : A) (f : List A) → IsRoot ops f r → IsSamePolynomial ops f (product_of ops (r ∷ ops.one ∷ []) (quotient_at ops r f))
  factor_of_root r f root =
      same_along ops (quotient_at-is r f)
      (same_along ops
      (sum_same ops ring {g = value_at ops f r ∷ []} {g' = []} (same_self ops (product_of ops (r ∷ ops.one ∷ []) (quotient_at ops r f))) (same_none ops (value_at ops f r) root (same_self ops [])))
      (same_of ops (sum_none ops ring (product_of ops (r ∷ ops.one ∷ []) (quotient_at ops r f)))))

  length-quotient_at : (r : A) (f : List A) → 0 < length f → length (quotient_at ops r f) + 1 ≡ length f
  unfolding quotient_at
  length-quotient_at r [] some = absurd (omega arith)
  length-quotient_at r (a ∷ []) some = refl
  length-quotient_at r (a ∷ b ∷ f) some = let rest : length (quotient_at ops r (b ∷ f)) + 1 ≡ length (b ∷ f) = length-quotient_at r (b ∷ f) (omega arith) in omega arith

  quotient_at-top : (r : A) (k : ℕ) (f : List A) → length f ≡ suc k + 1 → coefficient ops f (suc k) ≡ ops.one → coefficient ops (quotient_at ops r f) k ≡ ops.one
  unfolding quotient_at value_at
  quotient_at-top r k [] e one = absurd (omega arith)
  quotient_at-top r k (a ∷ []) e one = absurd (omega arith)
  quotient_at-top r zero (a ∷ b ∷ []) e one = ap (ops.plus b) (times_zero ops ring r) ∙ ring.plus_zero b ∙ one
  quotient_at-top r zero (a ∷ b ∷ c ∷ f) e one = absurd (omega arith)
  quotient_at-top r (suc k) (a ∷ b ∷ f) e one = quotient_at-top r k (b ∷ f) (omega arith) one

  -- the quotient of a monic polynomial is monic, one degree lower
  pub quotient_at-monic : (n : ℕ) (r : A) (f : List A) → IsMonic ops (suc n) f → IsMonic ops n (quotient_at ops r f)
  quotient_at-monic n r f monic = record {
    size = omega (arith, monic.size, length-quotient_at r f (omega (arith, monic.size)));
    top = quotient_at-top r n f monic.size monic.top;
  }

  -- a monic polynomial of degree 0 has the value 1
  value_at-one : (f : List A) (x : A) → IsMonic ops 0 f → value_at ops f x ≡ ops.one
  unfolding value_at
  value_at-one [] x monic = absurd (omega (arith, monic.size))
  value_at-one (a ∷ []) x monic = ap (ops.plus a) (times_zero ops ring x) ∙ ring.plus_zero a ∙ monic.top
  value_at-one (a ∷ b ∷ f) x monic = absurd (omega (arith, monic.size))

  -- ---- the product of factors

  -- one times g, as the product with x + r has it
  abbrev shifted : List A → List A
  shifted g = sum_of ops (scalar_multiple ops ops.one g) (ops.zero ∷ [])

  factor-monic : (n : ℕ) (r : A) (g : List A) → IsMonic ops n g → IsMonic ops (suc n) (product_of ops (r ∷ ops.one ∷ []) g)
  unfolding product_of
  factor-monic n r g monic = record {
    size =
        length-sum-r ops (scalar_multiple ops r g) (ops.zero ∷ shifted g) (omega (arith, length-map g (λ a. ops.times r a), length_shifted, monic.size))
        ∙ ap suc length_shifted
        ∙ ap suc monic.size
        ∙ omega arith;
    top =
        coefficient-sum ops ring (scalar_multiple ops r g) (ops.zero ∷ shifted g) (suc n)
        ∙ ap (λ z. ops.plus z (coefficient ops (shifted g) n)) (get_or_past (scalar_multiple ops r g) (suc n) ops.zero (omega (arith, length-map g (λ a. ops.times r a), monic.size)))
        ∙ zero_plus ops ring (coefficient ops (shifted g) n)
        ∙ coefficient-sum ops ring (scalar_multiple ops ops.one g) (ops.zero ∷ []) n
        ∙ ap (ops.plus (coefficient ops (scalar_multiple ops ops.one g) n)) ((same_none ops ops.zero refl (same_self ops [])).each n)
        ∙ ring.plus_zero (coefficient ops (scalar_multiple ops ops.one g) n)
        ∙ coefficient-scalar_multiple ops ring ops.one g n
        ∙ one_times ops ring (coefficient ops g n)
        ∙ monic.top;
  }
    where
      length_shifted : length (shifted g) ≡ length g
      length_shifted =
          length-sum ops (scalar_multiple ops ops.one g) (ops.zero ∷ []) (omega (arith, length-map g (λ a. ops.times ops.one a), monic.size))
          ∙ length-map g (λ a. ops.times ops.one a)

  -- it is monic, of as high a degree as there are factors
  pub with_roots-monic : (rs : List A) → IsMonic ops (length rs) (with_roots ops rs)
  unfolding with_roots
  with_roots-monic [] = record { size = refl; top = refl }
  with_roots-monic (r ∷ rs) = factor-monic (length rs) r (with_roots ops rs) (with_roots-monic rs)

  -- the value at x is zero where x is one of the roots
  pub with_roots-root : (rs : List A) (k : ℕ) (d : A) → k < length rs → IsRoot ops (with_roots ops rs) (get_or rs k d)
  unfolding with_roots
  with_roots-root [] k d lt = absurd (omega arith)
  with_roots-root (r ∷ rs) zero d lt =
      value_at-factored r (with_roots ops rs) r ∙ ap (λ z. ops.times z (value_at ops (with_roots ops rs) r)) (ring.plus_self r) ∙ zero_times ops ring (value_at ops (with_roots ops rs) r)
  with_roots-root (r ∷ rs) (suc k) d lt =
      value_at-factored r (with_roots ops rs) (get_or rs k d) ∙ ap (ops.times (ops.plus r (get_or rs k d))) (with_roots-root rs k d (omega arith)) ∙ times_zero ops ring (ops.plus r (get_or rs k d))

  module _ (apart : ops.one ≢ ops.zero) (no_zero_divisor : (a b : A) → ops.times a b ≡ ops.zero → (a ≡ ops.zero) ⊎ (b ≡ ops.zero)) where
    -- a root of f that isn't r is one of what is left once x + r is divided out
    root_left : (r s : A) (f : List A) → IsRoot ops f r → r ≢ s → IsRoot ops f s → IsRoot ops (quotient_at ops r f) s
    root_left r s f root differ other = by_factor (no_zero_divisor (ops.plus r s) (value_at ops (quotient_at ops r f) s) none)
      where
        none : ops.times (ops.plus r s) (value_at ops (quotient_at ops r f) s) ≡ ops.zero
        none =
            sym (value_at-factored r (quotient_at ops r f) s)
            ∙ sym (value_at-same ops ring f (product_of ops (r ∷ ops.one ∷ []) (quotient_at ops r f)) s (factor_of_root r f root))
            ∙ other

        by_factor : (ops.plus r s ≡ ops.zero) ⊎ (IsRoot ops (quotient_at ops r f) s) → IsRoot ops (quotient_at ops r f) s
        by_factor (inl same) = absurd (differ (same_of_sum ops ring r s same))
        by_factor (inr zero_there) = zero_there

    -- distinct roots are no more than the degree
    pub roots_within : (n : ℕ) (f rs : List A) → IsMonic ops n f → All (IsRoot ops f) rs → AreDistinct rs → length rs ≤ n
    roots_within n f [] monic roots differ = omega arith
    roots_within zero f (r ∷ rs) monic roots differ = absurd (apart (sym (value_at-one f r monic) ∙ roots 0 r (omega arith)))
    roots_within (suc n) f (r ∷ rs) monic roots differ =
        let fewer : length rs ≤ n = roots_within n (quotient_at ops r f) rs (quotient_at-monic n r f monic)
        (λ k d lt. root_left r (get_or rs k d) f (roots 0 r (omega arith)) (differ 0 (suc k) d (omega arith) (omega arith)) (roots (suc k) d (omega arith)))
        (λ i j d lt within. differ (suc i) (suc j) d (omega arith) (omega arith)) in
        omega arith

    -- a monic polynomial with as many distinct roots as its degree is the product of their factors
    pub factors_of_roots : (n : ℕ) (f rs : List A) → IsMonic ops n f → length rs ≡ n → All (IsRoot ops f) rs → AreDistinct rs → IsSamePolynomial ops f (with_roots ops rs)
    unfolding with_roots
    factors_of_roots zero f [] monic e roots differ = whole f monic
      where
        whole : (f : List A) → IsMonic ops 0 f → IsSamePolynomial ops f (ops.one ∷ [])
        whole [] monic = absurd (omega (arith, monic.size))
        whole (a ∷ []) monic = same_cons ops a ops.one monic.top (same_self ops [])
        whole (a ∷ b ∷ f) monic = absurd (omega (arith, monic.size))
    factors_of_roots zero f (r ∷ rs) monic e roots differ = absurd (omega arith)
    factors_of_roots (suc n) f [] monic e roots differ = absurd (omega arith)
    factors_of_roots (suc n) f (r ∷ rs) monic e roots differ =
        same_along ops (factor_of_root r f (roots 0 r (omega arith)))
        (product_same_r ops ring (r ∷ ops.one ∷ []) (factors_of_roots n (quotient_at ops r f) rs (quotient_at-monic n r f monic) (omega arith)
        (λ k d lt. root_left r (get_or rs k d) f (roots 0 r (omega arith)) (differ 0 (suc k) d (omega arith) (omega arith)) (roots (suc k) d (omega arith)))
        (λ i j d lt within. differ (suc i) (suc j) d (omega arith) (omega arith))))
