-- Products of polynomials.
use Rattle.std.proofs.Common.{◌≡◌, ℕ, zero, suc, ◌+◌, List, [], ◌∷◌, ◌++◌, replicate, refl, sym, ap, arith}
use Rattle.std.proofs.Math.Nat.{suc-add}
use Rattle.field_rules.specs.Ops.{Ops, IsRing}
use Rattle.poly_rules.specs.Polynomials.{IsSamePolynomial, sum_of, scalar_multiple, product_of, monomial}
use Rattle.poly_laws.proofs.Sums.{same_self, same_back, same_along, same_of, same_cons, same_none, sum_none, sum_same, sum_turn, sum_swap, shift_sum, scaled_same, scaled_sum, scaled_plus, scaled_scaled, scaled_zero, scaled_one, scaled_shift}

module _ {A : Type 0} (ops : Ops A) (ring : IsRing ops) where
  -- the product keeps its second factor's coefficients only
  pub product_same_r : {g g' : List A} (f : List A) → IsSamePolynomial ops g g' → IsSamePolynomial ops (product_of ops f g) (product_of ops f g')
  unfolding product_of
  product_same_r [] h = same_self ops []
  product_same_r (a ∷ f) h =
      sum_same ops ring (scaled_same ops ring a h) (same_cons ops ops.zero ops.zero refl (product_same_r f h))

  -- it distributes over a sum on the right
  pub product_sum_r : (f g h : List A) → IsSamePolynomial ops (product_of ops f (sum_of ops g h)) (sum_of ops (product_of ops f g) (product_of ops f h))
  unfolding product_of sum_of
  product_sum_r [] g h = same_self ops []
  product_sum_r (a ∷ f) g h =
      same_along ops
      (sum_same ops ring (scaled_sum ops ring a g h)
      (same_along ops (same_cons ops ops.zero ops.zero refl (product_sum_r f g h)) (shift_sum ops ring (product_of ops f g) (product_of ops f h))))
      (sum_swap ops ring (scalar_multiple ops a g) (scalar_multiple ops a h) (ops.zero ∷ product_of ops f g) (ops.zero ∷ product_of ops f h))

  -- and on the left
  pub product_sum_l : (f g h : List A) → IsSamePolynomial ops (product_of ops (sum_of ops f g) h) (sum_of ops (product_of ops f h) (product_of ops g h))
  unfolding product_of sum_of
  product_sum_l [] g h = same_self ops (product_of ops g h)
  product_sum_l (a ∷ f) [] h = same_of ops (sym (sum_none ops ring (product_of ops (a ∷ f) h)))
  product_sum_l (a ∷ f) (b ∷ g) h =
      same_along ops
      (sum_same ops ring (scaled_plus ops ring a b h)
      (same_along ops (same_cons ops ops.zero ops.zero refl (product_sum_l f g h)) (shift_sum ops ring (product_of ops f h) (product_of ops g h))))
      (sum_swap ops ring (scalar_multiple ops a h) (scalar_multiple ops b h) (ops.zero ∷ product_of ops f h) (ops.zero ∷ product_of ops g h))

  -- a multiple by an element comes out of a product
  pub product_scaled : (k : A) (g h : List A) → IsSamePolynomial ops (product_of ops (scalar_multiple ops k g) h) (scalar_multiple ops k (product_of ops g h))
  unfolding product_of
  product_scaled k [] h = same_self ops []
  product_scaled k (b ∷ g) h =
      same_along ops
      (sum_same ops ring (scaled_scaled ops ring k b h)
      (same_along ops (same_cons ops ops.zero ops.zero refl (product_scaled k g h)) (same_back ops (scaled_shift ops ring k (product_of ops g h)))))
      (same_back ops (scaled_sum ops ring k (scalar_multiple ops b h) (ops.zero ∷ product_of ops g h)))

  -- and so does x
  pub product_shift : (g h : List A) → IsSamePolynomial ops (product_of ops (ops.zero ∷ g) h) (ops.zero ∷ product_of ops g h)
  unfolding product_of sum_of
  product_shift g h = sum_same ops ring {g = ops.zero ∷ product_of ops g h} (scaled_zero ops ring h) (same_self ops (ops.zero ∷ product_of ops g h))

  pub product_assoc : (f g h : List A) → IsSamePolynomial ops (product_of ops (product_of ops f g) h) (product_of ops f (product_of ops g h))
  unfolding product_of
  product_assoc [] g h = same_self ops []
  product_assoc (a ∷ f) g h =
      same_along ops (product_sum_l (scalar_multiple ops a g) (ops.zero ∷ product_of ops f g) h)
      (sum_same ops ring (product_scaled a g h)
      (same_along ops (product_shift (product_of ops f g) h) (same_cons ops ops.zero ops.zero refl (product_assoc f g h))))

  -- nothing times a polynomial
  pub product_none : (f : List A) → IsSamePolynomial ops (product_of ops f []) []
  unfolding product_of sum_of
  product_none [] = same_self ops []
  product_none (a ∷ f) = same_none ops ops.zero refl (product_none f)

  -- the product by the second factor's constant and the rest of it
  pub product_cons : (f : List A) (b : A) (g : List A) → IsSamePolynomial ops (product_of ops f (b ∷ g)) (sum_of ops (scalar_multiple ops b f) (ops.zero ∷ product_of ops f g))
  unfolding product_of sum_of
  product_cons [] b g = same_back ops (same_none ops ops.zero refl (same_self ops []))
  product_cons (a ∷ f) b g =
      same_cons ops (ops.plus (ops.times a b) ops.zero) (ops.plus (ops.times b a) ops.zero) (ap (λ z. ops.plus z ops.zero) (ring.times_comm a b))
      (same_along ops (sum_same ops ring (same_self ops (scalar_multiple ops a g)) (product_cons f b g))
      (sum_turn ops ring (scalar_multiple ops a g) (scalar_multiple ops b f) (ops.zero ∷ product_of ops f g)))

  pub product_comm : (f g : List A) → IsSamePolynomial ops (product_of ops f g) (product_of ops g f)
  unfolding product_of
  product_comm [] g = same_back ops (product_none g)
  product_comm (a ∷ f) g =
      same_along ops (sum_same ops ring (same_self ops (scalar_multiple ops a g)) (same_cons ops ops.zero ops.zero refl (product_comm f g)))
      (same_back ops (product_cons g a f))

  -- the product keeps its first factor's coefficients only
  pub product_same_l : {f f' : List A} (g : List A) → IsSamePolynomial ops f f' → IsSamePolynomial ops (product_of ops f g) (product_of ops f' g)
  product_same_l {f} {f'} g h =
      same_along ops (product_comm f g) (same_along ops (product_same_r g h) (product_comm g f'))

  -- an element times a polynomial
  pub product_constant : (k : A) (f : List A) → IsSamePolynomial ops (product_of ops (k ∷ []) f) (scalar_multiple ops k f)
  unfolding product_of
  product_constant k f =
      same_along ops (sum_same ops ring (same_self ops (scalar_multiple ops k f)) (same_none ops ops.zero refl (same_self ops [])))
      (same_of ops (sum_none ops ring (scalar_multiple ops k f)))

  -- k * x ^ m times a polynomial
  pub product_term : (m : ℕ) (k : A) (f : List A) → IsSamePolynomial ops (product_of ops (replicate m ops.zero ++ k ∷ []) f) (replicate m ops.zero ++ scalar_multiple ops k f)
  product_term zero k f = product_constant k f
  product_term (suc m) k f =
      same_along ops (product_shift (replicate m ops.zero ++ k ∷ []) f) (same_cons ops ops.zero ops.zero refl (product_term m k f))

  -- the product of two powers of x
  pub product_powers : (m n : ℕ) → IsSamePolynomial ops (product_of ops (monomial ops m) (monomial ops n)) (monomial ops (m + n))
  product_powers zero n =
      let e : n ≡ 0 + n = omega arith in
      same_along ops (product_constant ops.one (monomial ops n))
      (same_along ops (scaled_one ops ring (monomial ops n)) (same_of ops (ap (λ k. monomial ops k) e)))
  product_powers (suc m) n =
      same_along ops (product_shift (monomial ops m) (monomial ops n))
      (same_along ops (same_cons ops ops.zero ops.zero refl (product_powers m n)) (same_of ops (ap (λ k. monomial ops k) (sym (suc-add m n)))))
