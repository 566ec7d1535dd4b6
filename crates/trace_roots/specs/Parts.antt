-- What is known of a part of a set while the set is taken apart.
use Rattle.std.specs.Prelude.{◌≡◌, ◌≢◌, ℕ, ◌≤◌, List, ◌++◌, length}
use Rattle.std.specs.List.{All}
use Rattle.std.specs.List.Sorted.{IsPermutation}
use Rattle.field_rules.specs.Ops.{Ops}
use Rattle.field_rules.specs.Lists.{AreDistinct}
use Rattle.poly_rules.specs.Polynomials.{degree}
use Rattle.splitting_laws.specs.Alike.{IsAlike}
use Rattle.sequence_laws.specs.Parts.{IsPart}

-- the sizes fit: sequences as long as the degree
pub record HasFittingSizes {A : Type 0} (locator : List A) (traces : List (List A)) : Type 0 where
  pub some : 1 ≤ degree locator
  pub sizes : All (λ t. length t ≡ degree locator) traces

-- distinct elements, none of them zero
pub record IsSet {A : Type 0} (ops : Ops A) (es : List A) : Type 0 where
  pub distinct : AreDistinct es
  pub nonzero : All (λ e. e ≢ ops.zero) es

-- a set's members stand in two parts, each alike at the exponents below the first
pub record IsSplit {A : Type 0} (ops : Ops A) (bits_of : A → ℕ) (width first : ℕ) (es f : List A) (ts : List (List A)) (g : List A) (vs : List (List A)) : Type 0 where
  pub left : List A
  pub right : List A
  pub left_unit : A → A
  pub right_unit : A → A
  pub together : IsPermutation es (left ++ right)
  pub left_part : IsPart ops bits_of width first left_unit left f ts
  pub right_part : IsPart ops bits_of width first right_unit right g vs
  pub left_alike : IsAlike ops bits_of width first left
  pub right_alike : IsAlike ops bits_of width first right
