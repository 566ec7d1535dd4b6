-- The coefficients of a recurrence, read from its monic form.
use Rattle.std.proofs.Common.{◌≡◌, ◌≤◌, List, [], ◌∷◌, length, drop, reverse, sym, ap, ◌∙◌, arith, length-drop}
use Rattle.std.proofs.lemmas.List.{get_or-reverse, length-reverse, reverse-reverse}
use Rattle.field_rules.specs.Ops.{Ops}
use Rattle.poly_rules.specs.Polynomials.{coefficient, IsMonic, degree}
use Rattle.bm_solver.specs.Locators.{coefficients_of}

module _ {A : Type 0} (ops : Ops A) where
  begins : (f : List A) → 1 ≤ length f → coefficient ops f 0 ≡ ops.one → f ≡ ops.one ∷ drop 1 f
  begins [] some first = absurd (omega arith)
  begins (a ∷ f) some first = ap (λ z. z ∷ f) first

  -- turned round, it begins with its 1
  pub monic_turned : (f : List A) → IsMonic ops (degree f) f → reverse f ≡ ops.one ∷ coefficients_of f
  monic_turned f monic =
      begins (reverse f) (omega (arith, monic.size, length-reverse f))
      (get_or-reverse f 0 ops.zero (omega (arith, monic.size)) ∙ ap (coefficient ops f) (omega (arith, monic.size)) ∙ monic.top)

  -- so it is the monic form of these coefficients
  pub monic_is : (f : List A) → IsMonic ops (degree f) f → f ≡ reverse (ops.one ∷ coefficients_of f)
  monic_is f monic = sym (reverse-reverse f) ∙ ap reverse (monic_turned f monic)

  -- and these coefficients are read from it
  pub coefficients_are : (cs : List A) → coefficients_of (reverse (ops.one ∷ cs)) ≡ cs
  coefficients_are cs = ap (drop 1) (reverse-reverse (ops.one ∷ cs))

  -- there are as many as its degree
  pub length-coefficients : (f : List A) → length (coefficients_of f) ≡ degree f
  length-coefficients f = omega (arith, length-drop 1 (reverse f), length-reverse f)
