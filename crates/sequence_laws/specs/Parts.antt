-- What is known of a part of a set while the set is taken apart by sequences.
use Rattle.std.specs.Prelude.{◌≡◌, ℕ, ◌+◌, ◌^◌, ◌<◌, ◌≤◌, Bool, not, filter, List, [], length, get_or}
use Rattle.field_rules.specs.Lists.{AreDistinct}
use Rattle.field_rules.specs.Ops.{Ops}
use Rattle.field_rules.specs.Fields.{trace_of}
use Rattle.poly_rules.specs.Roots.{with_roots}
use Rattle.splitting_laws.specs.Alike.{IsAlike}
use Rattle.splitting_laws.specs.Parts.{IsCorrelation}
use Rattle.sequence_laws.specs.Sequences.{sequence_of, IsUnit}

-- the sequence of the traces of b * e, where b is x ^ exponent
abbrev pub IsTraceSequence : {A : Type 0} → Ops A → (A → ℕ) → ℕ → ℕ → (A → A) → List A → List A → Type 0
IsTraceSequence ops bits_of width exponent u es s =
    (b : _) → bits_of b ≡ 2 ^ exponent → s ≡ sequence_of ops (λ e. ops.times (trace_of ops width (ops.times b e)) (u e)) es 0 (length es)

-- a set's polynomial, its unit, and the sequences of the traces of the exponents from the first on
pub record IsPart {A : Type 0} (ops : Ops A) (bits_of : A → ℕ) (width first : ℕ) (u : A → A) (es locator : List A) (sequences : List (List A)) : Type 0 where
  pub distinct : AreDistinct es
  pub locator_is : locator ≡ with_roots ops es
  pub unit : IsUnit ops u es
  pub traces : (i : ℕ) → i < length sequences → IsTraceSequence ops bits_of width (first + i) u es (get_or sequences i [])

-- the correlations of f with each list, n items each
pub record AreCorrelations {A : Type 0} (ops : Ops A) (f : List A) (n : ℕ) (sequences correlations : List (List A)) : Type 0 where
  pub size : length correlations ≡ length sequences
  pub each : (i : ℕ) → i < length sequences → IsCorrelation ops f (get_or sequences i []) n (get_or correlations i [])

-- g is the polynomial of some of the members, not of all and not of none, and traces tell less apart in both halves
pub record IsHalf {A : Type 0} (ops : Ops A) (bits_of : A → ℕ) (width first : ℕ) (es g : List A) : Type 0 where
  pub test : A → Bool
  pub polynomial : g ≡ with_roots ops (filter test es)
  pub some : 1 ≤ length (filter test es)
  pub rest : 1 ≤ length (filter (λ e. not (test e)) es)
  pub alike : IsAlike ops bits_of width first (filter test es)
  pub rest_alike : IsAlike ops bits_of width first (filter (λ e. not (test e)) es)
