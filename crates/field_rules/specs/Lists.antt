-- Lists of elements.
use Rattle.std.specs.Prelude.{◌≢◌, List, [], ◌∷◌}
use Rattle.std.specs.List.{AllPairs}
use Rattle.field_rules.specs.Ops.{Ops}

-- no element stands twice
abbrev pub AreDistinct : {A : Type 0} → List A → Type 0
AreDistinct xs = AllPairs (λ a b. a ≢ b) xs

-- the sums of the items at each index of two lists, as far as both have items
unfoldable pub sums_of_both : {A : Type 0} → Ops A → List A → List A → List A
sums_of_both ops [] bs = []
sums_of_both ops (a ∷ rest) [] = []
sums_of_both ops (a ∷ rest) (b ∷ more) = ops.plus a b ∷ sums_of_both ops rest more
