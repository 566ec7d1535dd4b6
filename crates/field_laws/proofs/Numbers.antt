-- Elements told by their bits: equality of elements is that of the bits.
use Rattle.std.proofs.Common.{◌≡◌, ◌⊎◌, ◌↔◌, inl, inr, ℕ, ◌^◌, ◌<◌, sym, ap, subst, ◌∙◌, arith, Bool}
use Rattle.std.specs.Prelude.{IsTrue, nat_eq}
use Rattle.std.proofs.Math.Nat.{lt_irrefl}
use Rattle.std.proofs.lemmas.Bool.{cases_eq}
use Rattle.std.proofs.lemmas.Bool.Decides.{Decides-eqb}
use Rattle.field_rules.specs.Ops.{Ops}
use Rattle.field_rules.specs.Numbered.{IsNumbered}

module _ {A : Type 0} (ops : Ops A) (bits_of : A → ℕ) (width : ℕ) (numbered : IsNumbered ops bits_of width) where
  -- an element has a bit
  pub width_positive : 0 < width
  width_positive = by (cases_eq width 0) (subst (λ z. z < 2 ^ width) numbered.one_bits (numbered.below ops.one))
    where
      by : (width ≡ 0) ⊎ (width ≡ 0 → ⊥) → 1 < 2 ^ width → 0 < width
      by (inl none) fits = absurd (lt_irrefl 1 (subst (λ z. 1 < 2 ^ z) none fits))
      by (inr some) fits = omega arith

  -- two elements are equal or not
  pub same_or_not : (a b : A) → (a ≡ b) ⊎ (a ≡ b → ⊥)
  same_or_not a b = by (cases_eq (bits_of a) (bits_of b))
    where
      by : (bits_of a ≡ bits_of b) ⊎ (bits_of a ≡ bits_of b → ⊥) → (a ≡ b) ⊎ (a ≡ b → ⊥)
      by (inl e) = inl (numbered.same a b e)
      by (inr n) = inr (λ e. n (ap bits_of e))

  -- the test of equal bits is that of equal elements
  pub equal_bits : (r : Bool) (a b : A) → r ≡ nat_eq (bits_of a) (bits_of b) → IsTrue r ↔ (a ≡ b)
  equal_bits r a b is =
      (λ yes. numbered.same a b ((Decides-eqb (bits_of a) (bits_of b)).0 (sym is ∙ yes)), λ same. is ∙ (Decides-eqb (bits_of a) (bits_of b)).1 (ap bits_of same))
