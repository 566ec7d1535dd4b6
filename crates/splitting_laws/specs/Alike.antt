-- How far traces have told the members of a set apart.
use Rattle.std.specs.Prelude.{◌≡◌, ℕ, ◌^◌, ◌<◌, List}
use Rattle.std.specs.List.{AllPairs}
use Rattle.field_rules.specs.Ops.{Ops}
use Rattle.field_rules.specs.Fields.{trace_of}

-- for each i below j, the products of x ^ i with the members have one trace
pub record IsAlike {A : Type 0} (ops : Ops A) (bits_of : A → ℕ) (n j : ℕ) (es : List A) : Type 0 where
  pub each : (i : ℕ) (b : A) → i < j → bits_of b ≡ 2 ^ i → AllPairs (λ x y. trace_of ops n (ops.times b x) ≡ trace_of ops n (ops.times b y)) es
