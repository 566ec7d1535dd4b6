-- Sequences of weights on a set, and what the code makes of them.
use Rattle.std.specs.Prelude.{◌≡◌, ℕ, zero, suc, ◌+◌, ◌<◌, List, [], ◌∷◌, length, drop, map}
use Rattle.field_rules.specs.Ops.{Ops, power}
use Rattle.field_rules.specs.Fields.{conjugate, dot_of}
use Rattle.poly_rules.specs.Polynomials.{coefficient}
use Rattle.sequence_laws.specs.Halves.{evens, odds}

-- the sum of w e * e ^ k over the elements
unfoldable pub weighted : {A : Type 0} → Ops A → (A → A) → ℕ → List A → A
weighted ops w k [] = ops.zero
weighted ops w k (e ∷ es) = ops.plus (ops.times (w e) (power ops e k)) (weighted ops w k es)

-- the n sums of w e * e ^ k, w e * e ^ (k + 1), .. over the elements
unfoldable pub sequence_of : {A : Type 0} → Ops A → (A → A) → List A → ℕ → ℕ → List A
sequence_of ops w es k zero = []
sequence_of ops w es k (suc n) = weighted ops w k es ∷ sequence_of ops w es (k + 1) n

-- u gives the sums 0, .., 0, 1 over es, as many as es has elements
pub record IsUnit {A : Type 0} (ops : Ops A) (u : A → A) (es : List A) : Type 0 where
  pub low : (k : ℕ) → k + 1 < length es → weighted ops u k es ≡ ops.zero
  pub last : (k : ℕ) → k + 1 ≡ length es → weighted ops u k es ≡ ops.one

-- the squares of the items
abbrev pub squares_of : {A : Type 0} → Ops A → List A → List A
squares_of ops s = map (λ a. ops.times a a) s

-- t has the correlation of the odd half of f with the squares of s at its even places, and that of the even half at its
-- odd places
pub record IsSquareSequence {A : Type 0} (ops : Ops A) (f s t : List A) : Type 0 where
  pub size : length t ≡ length s
  pub at_even : (m : ℕ) → m + m < length s → coefficient ops t (m + m) ≡ dot_of ops (odds f) (drop m (squares_of ops s))
  pub at_odd : (m : ℕ) → m + m + 1 < length s → coefficient ops t (m + m + 1) ≡ dot_of ops (evens f) (drop m (squares_of ops s))

-- the row of x ^ (2 ^ j): the sequence of e ^ (2 ^ j)
abbrev pub row_of : {A : Type 0} → Ops A → (A → A) → List A → ℕ → List A
row_of ops u es j = sequence_of ops (λ e. ops.times (conjugate ops j e) (u e)) es 0 (length es)
