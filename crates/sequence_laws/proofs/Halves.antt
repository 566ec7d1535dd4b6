-- The even and the odd half of a polynomial.
use Rattle.std.proofs.Common.{◌≡◌, ℕ, zero, suc, ◌+◌, ◌≤◌, List, [], ◌∷◌, length, refl, sym, ap, ◌∙◌, arith}
use Rattle.field_rules.specs.Ops.{Ops, IsRing}
use Rattle.poly_rules.specs.Polynomials.{coefficient, IsMonic, value_at}
use Rattle.poly_rules.specs.Roots.{IsRoot}
use Rattle.field_laws.proofs.RingFacts.{times_zero, same_of_sum}
use Rattle.poly_laws.proofs.Elements.{plus_turn}
use Rattle.sequence_laws.specs.Halves.{evens, odds}
use Rattle.sequence_laws.proofs.Weighing.{times_turn}

-- ---- lengths

pub length-halves : {A : Type 0} (f : List A) → length (evens f) + length (odds f) ≡ length f
unfolding evens odds
length-halves [] = refl
length-halves (a ∷ []) = refl
length-halves (a ∷ b ∷ f) = omega (arith, length-halves f)

pub halves_even : {A : Type 0} (f : List A) → (length (odds f) ≤ length (evens f)) × (length (evens f) ≤ length (odds f) + 1)
unfolding evens odds
halves_even [] = (omega arith, omega arith)
halves_even (a ∷ []) = (omega arith, omega arith)
halves_even (a ∷ b ∷ f) = (omega (arith, (halves_even f).0), omega (arith, (halves_even f).1))

module _ {A : Type 0} (ops : Ops A) where
  -- ---- the highest coefficient

  raised : (j : ℕ) (c : A) (g : List A) → IsMonic ops j g → IsMonic ops (suc j) (c ∷ g)
  raised j c g monic = record { size = omega (arith, monic.size); top = monic.top }

  pub odds-monic : (j : ℕ) (f : List A) → IsMonic ops (j + j + 1) f → IsMonic ops j (odds f)
  unfolding odds
  odds-monic j [] monic = absurd (omega (arith, monic.size))
  odds-monic j (a ∷ []) monic = absurd (omega (arith, monic.size))
  odds-monic zero (a ∷ b ∷ []) monic = record { size = refl; top = monic.top }
  odds-monic zero (a ∷ b ∷ c ∷ f) monic = absurd (omega (arith, monic.size))
  odds-monic (suc j) (a ∷ b ∷ f) monic =
      let up : suc (suc (j + j + 1)) ≡ suc j + suc j + 1 = omega arith in
      raised j b (odds f) (odds-monic j f (record { size = omega (arith, monic.size); top = ap (coefficient ops (a ∷ b ∷ f)) up ∙ monic.top }))

  pub evens-monic : (j : ℕ) (f : List A) → IsMonic ops (j + j) f → IsMonic ops j (evens f)
  unfolding evens
  evens-monic j [] monic = absurd (omega (arith, monic.size))
  evens-monic zero (a ∷ []) monic = record { size = refl; top = monic.top }
  evens-monic (suc j) (a ∷ []) monic = absurd (omega (arith, monic.size))
  evens-monic zero (a ∷ b ∷ f) monic = absurd (omega (arith, monic.size))
  evens-monic (suc j) (a ∷ b ∷ f) monic =
      let up : suc (suc (j + j)) ≡ suc j + suc j = omega arith in
      raised j a (evens f) (evens-monic j f (record { size = omega (arith, monic.size); top = ap (coefficient ops (a ∷ b ∷ f)) up ∙ monic.top }))

module _ {A : Type 0} (ops : Ops A) (ring : IsRing ops) where
  -- ---- values

  two_more : (a b e x y : A) → ops.plus a (ops.times e (ops.plus b (ops.times e (ops.plus x (ops.times e y)))))
      ≡ ops.plus (ops.plus a (ops.times (ops.times e e) x)) (ops.times e (ops.plus b (ops.times (ops.times e e) y)))
  two_more a b e x y =
      ap (ops.plus a)
      (ring.distributes e b (ops.times e (ops.plus x (ops.times e y)))
      ∙ ap (ops.plus (ops.times e b))
      (sym (ring.times_assoc e e (ops.plus x (ops.times e y)))
      ∙ ring.distributes (ops.times e e) x (ops.times e y)
      ∙ ap (ops.plus (ops.times (ops.times e e) x)) (times_turn ops ring (ops.times e e) e y))
      ∙ plus_turn ops ring (ops.times e b) (ops.times (ops.times e e) x) (ops.times e (ops.times (ops.times e e) y))
      ∙ ap (ops.plus (ops.times (ops.times e e) x)) (sym (ring.distributes e b (ops.times (ops.times e e) y))))
      ∙ sym (ring.plus_assoc a (ops.times (ops.times e e) x) (ops.times e (ops.plus b (ops.times (ops.times e e) y))))

  -- f(e) is the even half at e ^ 2, and e times the odd half at e ^ 2
  pub value_at-halves : (f : List A) (e : A) → value_at ops f e ≡ ops.plus (value_at ops (evens f) (ops.times e e)) (ops.times e (value_at ops (odds f) (ops.times e e)))
  unfolding value_at evens odds
  value_at-halves [] e = sym (ap (ops.plus ops.zero) (times_zero ops ring e) ∙ ring.plus_zero ops.zero)
  value_at-halves (a ∷ []) e =
      sym (ap (λ z. ops.plus (ops.plus a z) (ops.times e ops.zero)) (times_zero ops ring (ops.times e e)) ∙ ap (λ z. ops.plus z (ops.times e ops.zero)) (ring.plus_zero a))
  value_at-halves (a ∷ b ∷ f) e =
      ap (λ z. ops.plus a (ops.times e (ops.plus b (ops.times e z)))) (value_at-halves f e)
      ∙ two_more a b e (value_at ops (evens f) (ops.times e e)) (value_at ops (odds f) (ops.times e e))

  -- at a root of f the two are one value
  pub halves_meet : (f : List A) (e : A) → IsRoot ops f e → value_at ops (evens f) (ops.times e e) ≡ ops.times e (value_at ops (odds f) (ops.times e e))
  halves_meet f e root =
      same_of_sum ops ring (value_at ops (evens f) (ops.times e e)) (ops.times e (value_at ops (odds f) (ops.times e e))) (sym (value_at-halves f e) ∙ root)
