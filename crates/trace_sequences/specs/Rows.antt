-- The rows of x, x ^ 2, x ^ 4, .. of a set, and the sequences of traces.
use Rattle.std.specs.Prelude.{◌≡◌, ℕ, ◌+◌, ◌<◌, List, [], length, get_or}
use Rattle.field_rules.specs.Ops.{Ops}
use Rattle.sequence_laws.specs.Sequences.{row_of}
use Rattle.sequence_laws.specs.Parts.{IsTraceSequence}

-- the first rows, in order
pub record AreRows {A : Type 0} (ops : Ops A) (u : A → A) (es : List A) (rows : List (List A)) : Type 0 where
  pub each : (j : ℕ) → j < length rows → get_or rows j [] ≡ row_of ops u es j

-- the sequences of the traces of the exponents from the first on
abbrev pub AreTraceSequences : {A : Type 0} → Ops A → (A → ℕ) → ℕ → ℕ → (A → A) → List A → List (List A) → Type 0
AreTraceSequences ops bits_of width first u es sequences =
    (i : ℕ) → i < length sequences → IsTraceSequence ops bits_of width (first + i) u es (get_or sequences i [])
