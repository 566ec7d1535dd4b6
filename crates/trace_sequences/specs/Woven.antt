-- Two lists in turn.
use Rattle.std.specs.Prelude.{◌≡◌, ℕ, ◌+◌, ◌<◌, List, length}
use Rattle.field_rules.specs.Ops.{Ops}
use Rattle.poly_rules.specs.Polynomials.{coefficient}

-- the items of the first list stand at even indices of t, those of the second at odd ones
pub record AreWoven {A : Type 0} (ops : Ops A) (first second t : List A) : Type 0 where
  pub size : length t ≡ length first + length second
  pub at_even : (m : ℕ) → m < length first → coefficient ops t (m + m) ≡ coefficient ops first m
  pub at_odd : (m : ℕ) → m < length second → coefficient ops t (m + m + 1) ≡ coefficient ops second m
