-- Dots of a list with what follows each place of another.
use Rattle.std.specs.Prelude.{◌≡◌, ℕ, ◌<◌, List, length, drop}
use Rattle.field_rules.specs.Ops.{Ops}
use Rattle.field_rules.specs.Fields.{dot_of}
use Rattle.poly_rules.specs.Polynomials.{coefficient}

-- u has, at each index below m, the dot of t with the list s from that index on
pub record IsCorrelation {A : Type 0} (ops : Ops A) (t s : List A) (m : ℕ) (u : List A) : Type 0 where
  pub size : length u ≡ m
  pub each : (k : ℕ) → k < m → coefficient ops u k ≡ dot_of ops t (drop k s)
