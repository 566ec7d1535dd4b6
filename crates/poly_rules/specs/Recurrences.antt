-- Linear recurrences of sequences.
use Rattle.std.specs.Prelude.{◌≡◌, ℕ, ◌+◌, ◌<◌, ◌≤◌, List, length, take, drop, reverse}
use Rattle.field_rules.specs.Ops.{Ops}
use Rattle.field_rules.specs.Fields.{dot_of}
use Rattle.poly_rules.specs.Polynomials.{coefficient, degree}

-- s has n items, sums first, and goes on by s_(k+L) = f_0 * s_k + .. + f_(L-1) * s_(k+L-1), where L is the degree of f
pub record IsExtension {A : Type 0} (ops : Ops A) (f sums : List A) (n : ℕ) (s : List A) : Type 0 where
  pub size : length s ≡ n
  pub begins : take (length sums) s ≡ sums
  pub goes_on : (k : ℕ) → length sums ≤ k + degree f → k + degree f < n
      → coefficient ops s (k + degree f) ≡ dot_of ops (take (degree f) f) (drop k s)

-- the recurrence with the coefficients c_1, .., c_L holds of s: each item from index L on is c_1 times the item before it,
-- and c_2 times the one before that, and so on to c_L times the one L items before
pub record IsRecurrence {A : Type 0} (ops : Ops A) (cs s : List A) : Type 0 where
  pub each : (k : ℕ) → k + length cs < length s → coefficient ops s (k + length cs) ≡ dot_of ops (reverse cs) (drop k s)

-- a recurrence that holds of s, and none shorter does
pub record IsShortest {A : Type 0} (ops : Ops A) (cs s : List A) : Type 0 where
  pub holds : IsRecurrence ops cs s
  pub least : (ds : List A) → IsRecurrence ops ds s → length cs ≤ length ds
