-- One exponent further, from what the calls of a step tell.
use Rattle.std.proofs.Common.{◌≡◌, ℕ, ◌+◌, ◌^◌, ◌<◌, List, length, Option, Some, sym, ap, subst, arith}
use Rattle.std.specs.Prelude.{IfSome}
use Rattle.field_rules.specs.Lists.{AreDistinct}
use Rattle.field_rules.specs.Ops.{Ops, IsRing}
use Rattle.field_rules.specs.Numbered.{IsNumbered}
use Rattle.poly_rules.specs.Polynomials.{degree}
use Rattle.sequence_laws.specs.Sequences.{IsUnit}
use Rattle.sequence_laws.specs.Parts.{IsTraceSequence, IsPart}
use Rattle.trace_roots.specs.declared.part.Part.{Part}
use Rattle.trace_roots.specs.Parts.{IsSplit}
use Rattle.trace_roots.proofs.Found.{at_some, basis_at}
use Rattle.trace_roots.proofs.Parting.{degree_of_set}

module _ {A : Type 0} (ops : Ops A) (ring : IsRing ops) (bits_of : A → ℕ) (width : ℕ) (numbered : IsNumbered ops bits_of width) where
  -- what the code has of a part is the set's
  abbrev pub IsPartOf : ℕ → (A → A) → List A → Part A → Type 0
  IsPartOf exponent u es p = IsPart ops bits_of width exponent u es p.locator p.traces.items

  abbrev pub IsSplitOf : ℕ → List A → Part A → Part A → Type 0
  IsSplitOf exponent es p q = IsSplit ops bits_of width exponent es p.locator p.traces.items q.locator q.traces.items

  -- a trace's sequence of the exponent, and the part with what is left
  module _ (exponent : ℕ) (below : exponent < width) (u : A → A) (es t : List A) (rest : Part A) {o : Option (List A × Part A)} (is : o ≡ Some (t, rest))
      (traced : IfSome o (λ p. IsTraceSequence ops bits_of width exponent u es p.0)) (left : IfSome o (λ p. IsPartOf (exponent + 1) u es p.1)) (sizes : IfSome o (λ p. length p.0 ≡ degree p.1.locator)) where
    pub next_part : IsPartOf (exponent + 1) u es rest
    next_part = at_some (λ p. IsPartOf (exponent + 1) u es p.1) is left

    -- what is told of a basis element of the exponent, where t' is what the call was given
    pub next_told : {X : Type 0} (t' : List A) → t' ≡ t
        → ((b : A) → bits_of b ≡ 2 ^ exponent → AreDistinct es → IsUnit ops u es → length es ≡ length t' → IsTraceSequence ops bits_of width exponent u es t' → X) → X
    next_told t' same told =
        let b : (b : A) × (bits_of b ≡ 2 ^ exponent) = basis_at ops ring bits_of width numbered exponent below in
        let size : length t ≡ degree rest.locator = at_some (λ p. length p.0 ≡ degree p.1.locator) is sizes in
        told b.0 b.1 next_part.distinct next_part.unit (omega (arith, size, ap length same, degree_of_set ops ring rest.locator es next_part.locator_is))
        (subst (IsTraceSequence ops bits_of width exponent u es) (sym same) (at_some (λ p. IsTraceSequence ops bits_of width exponent u es p.0) is traced))
