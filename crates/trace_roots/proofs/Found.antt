-- The steps of finding all members.
use Rattle.std.proofs.Common.{◌≡◌, ◌≢◌, ℕ, ◌^◌, ◌<◌, ◌≤◌, List, ◌++◌, length, ap, subst, ◌∙◌, arith, append_assoc, Option, Some, true, false}
use Rattle.std.specs.Prelude.{IfSome}
use Rattle.std.specs.List.Sorted.{IsPermutation}
use Rattle.std.proofs.lemmas.List.Sorted.{IsPermutation-trans, IsPermutation-append}
use Rattle.std.proofs.lemmas.Nat.{pow_below}
use Rattle.field_rules.specs.Ops.{Ops, IsRing}
use Rattle.field_rules.specs.Fields.{IsSeparatedByTrace}
use Rattle.field_rules.specs.Numbered.{IsNumbered}
use Rattle.splitting_laws.specs.Alike.{IsAlike}
use Rattle.splitting_laws.proofs.Alike.{alike_end}
use Rattle.sequence_laws.specs.Parts.{IsPart}
use Rattle.trace_roots.specs.Parts.{HasFittingSizes}
use Rattle.trace_roots.proofs.Parting.{degree_of_set}

-- false is not true
pub never : {X : Type 0} → false ≡ true → X
never none = cc none

-- what holds of an item where there is one
pub at_some : {X : Type 0} (P : X → Type 0) {o : Option X} {x : X} → o ≡ Some x → IfSome o P → P x
at_some P is h = subst (λ z. IfSome z P) is h

module _ {A : Type 0} (ops : Ops A) (ring : IsRing ops) (bits_of : A → ℕ) (width : ℕ) where
  -- at the end of the basis no two members are left
  pub end_of_basis : ((a b : A) → a ≢ b → IsSeparatedByTrace ops bits_of width a b) → (exponent : ℕ) (u : A → A) (es f : List A) (traces : List (List A)) → HasFittingSizes f traces
      → IsPart ops bits_of width exponent u es f traces → exponent ≡ width → IsAlike ops bits_of width exponent es → length f ≡ 2
  end_of_basis separates exponent u es f traces fits part end alike =
      let few : length es ≤ 1 = alike_end ops bits_of width separates es part.distinct (subst (λ j. IsAlike ops bits_of width j es) end alike) in
      omega (arith, few, degree_of_set ops ring f es part.locator_is, fits.some)

  -- the power of x that has the exponent
  pub basis_at : IsNumbered ops bits_of width → (exponent : ℕ) → exponent < width → (b : A) × (bits_of b ≡ 2 ^ exponent)
  basis_at numbered exponent below = numbered.filled (2 ^ exponent) (pow_below exponent width below)

-- what was found of the two parts is what there is of the whole
pub found_of_both : {A : Type 0} (es left right ms ns old mid new : List A) → IsPermutation es (left ++ right) → IsPermutation left ms → IsPermutation right ns → mid ≡ old ++ ms → new ≡ mid ++ ns
    → IsPermutation es (ms ++ ns) × (new ≡ old ++ (ms ++ ns))
found_of_both es left right ms ns old mid new split first second mid_is new_is = (
  IsPermutation-trans es (left ++ right) (ms ++ ns) split (IsPermutation-append left ms right ns first second),
  new_is ∙ ap (λ z. z ++ ns) mid_is ∙ append_assoc old ms ns,
)
