-- Asks without a fault, in whatever order they are looked at.
use Rattle.std.specs.Prelude.{◌≡◌, ℕ, true, List}
use Rattle.std.specs.List.{All}
use Rattle.field_rules.specs.Lists.{AreDistinct}
use Rattle.node_rules.specs.Outcomes.{is_in}

-- each of the asks is among the short ids, and stands once
abbrev pub AreSketchedOnce : List ℕ → List ℕ → Type 0
AreSketchedOnce shorts asks = All (λ n. is_in shorts n ≡ true) asks × AreDistinct asks
