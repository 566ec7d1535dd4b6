-- Squares of polynomials.
use Rattle.std.specs.Prelude.{List, [], ◌∷◌, map}
use Rattle.field_rules.specs.Ops.{Ops}

-- each item with a zero behind it
unfoldable pub with_zeros : {A : Type 0} → A → List A → List A
with_zeros zero [] = []
with_zeros zero (a ∷ xs) = a ∷ zero ∷ with_zeros zero xs

-- the squares of the coefficients, each with a zero behind it
abbrev pub square_of : {A : Type 0} → Ops A → List A → List A
square_of ops f = with_zeros ops.zero (map (λ a. ops.times a a) f)
