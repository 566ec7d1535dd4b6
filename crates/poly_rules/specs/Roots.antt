-- Roots of polynomials.
use Rattle.std.specs.Prelude.{◌≡◌, List, [], ◌∷◌}
use Rattle.field_rules.specs.Ops.{Ops}
use Rattle.poly_rules.specs.Polynomials.{value_at, product_of}

-- the value at r is zero
abbrev pub IsRoot : {A : Type 0} → Ops A → List A → A → Type 0
IsRoot ops f r = value_at ops f r ≡ ops.zero

-- the product of the factors x + r
unfoldable pub with_roots : {A : Type 0} → Ops A → List A → List A
with_roots ops [] = ops.one ∷ []
with_roots ops (r ∷ rs) = product_of ops (r ∷ ops.one ∷ []) (with_roots ops rs)
