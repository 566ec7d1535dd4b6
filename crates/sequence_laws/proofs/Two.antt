-- Two members at once: the roots of x ^ 2 + b x + c are b y and b y + b, where y ^ 2 + y = c / b ^ 2.
use Rattle.std.proofs.Common.{◌≡◌, ◌⊎◌, inl, inr, ℕ, [], ◌∷◌, sym, ap, ◌∙◌}
use Rattle.field_rules.specs.Ops.{Ops, IsRing}
use Rattle.field_rules.specs.Fields.{IsField}
use Rattle.poly_rules.specs.Polynomials.{coefficient, sum_of, product_of}
use Rattle.poly_rules.specs.Roots.{with_roots}
use Rattle.field_laws.proofs.RingFacts.{one_times, distributes_left, plus_again, same_of_sum, plus_swap, times_swap, square_plus}
use Rattle.splitting_laws.proofs.Factors.{with_roots-lone}
use Rattle.sequence_laws.proofs.Weighing.{times_turn}

module _ {A : Type 0} (ops : Ops A) (ring : IsRing ops) where
  -- the product of two factors
  pub with_roots-two : (x y : A) → with_roots ops (x ∷ y ∷ []) ≡ ops.times x y ∷ ops.plus x y ∷ ops.one ∷ []
  unfolding with_roots product_of sum_of
  with_roots-two x y =
      ap (λ z. product_of ops (x ∷ ops.one ∷ []) z) (with_roots-lone ops ring y)
      ∙ ap (λ z. z ∷ ops.plus (ops.times x ops.one) (ops.plus (ops.times ops.one y) ops.zero) ∷ ops.times ops.one ops.one ∷ []) (ring.plus_zero (ops.times x y))
      ∙ ap (λ z. ops.times x y ∷ ops.plus z (ops.plus (ops.times ops.one y) ops.zero) ∷ ops.times ops.one ops.one ∷ []) (ring.times_one x)
      ∙ ap (λ z. ops.times x y ∷ ops.plus x z ∷ ops.times ops.one ops.one ∷ []) (ring.plus_zero (ops.times ops.one y) ∙ one_times ops ring y)
      ∙ ap (λ z. ops.times x y ∷ ops.plus x y ∷ z ∷ []) (ring.times_one ops.one)

  -- x / b solves the equation
  pub one_solution : (x y i : A) → ops.times (ops.plus x y) i ≡ ops.one
      → ops.plus (ops.times (ops.times x i) (ops.times x i)) (ops.times x i) ≡ ops.times (ops.times x y) (ops.times i i)
  one_solution x y i inverse =
      ap (ops.plus (ops.times (ops.times x i) (ops.times x i))) own
      ∙ plus_again ops ring (ops.times (ops.times x i) (ops.times x i)) (ops.times (ops.times x i) (ops.times y i))
      ∙ times_swap ops ring x i y i
    where
      -- x i = x i (x + y) i
      own : ops.times x i ≡ ops.plus (ops.times (ops.times x i) (ops.times x i)) (ops.times (ops.times x i) (ops.times y i))
      own =
          sym (ring.times_one (ops.times x i))
          ∙ ap (ops.times (ops.times x i)) (sym inverse ∙ distributes_left ops ring x y i)
          ∙ ring.distributes (ops.times x i) (ops.times x i) (ops.times y i)

  module _ (bits : ℕ) (field : IsField ops bits) where
    -- two solutions are alike but for one
    pub two_solutions : (v z : A) → ops.plus (ops.times v v) v ≡ ops.plus (ops.times z z) z → (z ≡ v) ⊎ (z ≡ ops.plus v ops.one)
    two_solutions v z same = by_factor (field.no_zero_divisor (ops.plus z v) (ops.plus (ops.plus z v) ops.one) none)
      where
        none : ops.times (ops.plus z v) (ops.plus (ops.plus z v) ops.one) ≡ ops.zero
        none =
            ring.distributes (ops.plus z v) (ops.plus z v) ops.one
            ∙ ap (λ w. ops.plus w (ops.times (ops.plus z v) ops.one)) (square_plus ops ring z v)
            ∙ ap (ops.plus (ops.plus (ops.times z z) (ops.times v v))) (ring.times_one (ops.plus z v))
            ∙ plus_swap ops ring (ops.times z z) (ops.times v v) z v
            ∙ ap (λ w. ops.plus w (ops.plus (ops.times v v) v)) (sym same)
            ∙ ring.plus_self (ops.plus (ops.times v v) v)

        by_factor : (ops.plus z v ≡ ops.zero) ⊎ (ops.plus (ops.plus z v) ops.one ≡ ops.zero) → (z ≡ v) ⊎ (z ≡ ops.plus v ops.one)
        by_factor (inl e) = inl (same_of_sum ops ring z v e)
        by_factor (inr e) = inr (same_of_sum ops ring z (ops.plus v ops.one) (sym (ring.plus_assoc z v ops.one) ∙ e))

    -- for any solution z
    pub two_members : (x y b c i z : A) → with_roots ops (x ∷ y ∷ []) ≡ c ∷ b ∷ ops.one ∷ [] → ops.times b i ≡ ops.one
        → ops.plus (ops.times z z) z ≡ ops.times c (ops.times i i)
        → ((ops.times b z ≡ x) × (ops.plus (ops.times b z) b ≡ y)) ⊎ ((ops.times b z ≡ y) × (ops.plus (ops.times b z) b ≡ x))
    two_members x y b c i z is inverse solves =
        by_solution (two_solutions (ops.times x i) z
        (one_solution x y i (ap (λ w. ops.times w i) (sym b_is) ∙ inverse) ∙ ap (λ w. ops.times w (ops.times i i)) (sym c_is) ∙ sym solves))
      where
        c_is : c ≡ ops.times x y
        c_is = ap (λ w. coefficient ops w 0) (sym is ∙ with_roots-two x y)

        b_is : b ≡ ops.plus x y
        b_is = ap (λ w. coefficient ops w 1) (sym is ∙ with_roots-two x y)

        back : ops.times b (ops.times x i) ≡ x
        back = times_turn ops ring b x i ∙ ap (ops.times x) inverse ∙ ring.times_one x

        other : ops.plus x b ≡ y
        other = ap (ops.plus x) b_is ∙ plus_again ops ring x y

        by_solution : (z ≡ ops.times x i) ⊎ (z ≡ ops.plus (ops.times x i) ops.one)
            → ((ops.times b z ≡ x) × (ops.plus (ops.times b z) b ≡ y)) ⊎ ((ops.times b z ≡ y) × (ops.plus (ops.times b z) b ≡ x))
        by_solution (inl e) = inl (here, ap (λ w. ops.plus w b) here ∙ other)
          where
            here : ops.times b z ≡ x
            here = ap (ops.times b) e ∙ back
        by_solution (inr e) = inr (there, ap (λ w. ops.plus w b) there ∙ ap (λ w. ops.plus w b) (sym other) ∙ ring.plus_assoc x b b ∙ ap (ops.plus x) (ring.plus_self b) ∙ ring.plus_zero x)
          where
            there : ops.times b z ≡ y
            there = ap (ops.times b) e ∙ ring.distributes b (ops.times x i) ops.one ∙ ap (λ w. ops.plus w (ops.times b ops.one)) back ∙ ap (ops.plus x) (ring.times_one b) ∙ other
