-- What the search for the shortest recurrence of a sequence keeps.
use Rattle.std.specs.Prelude.{◌≡◌, ℕ, ◌+◌, ◌-◌, ◌<◌, ◌≤◌, List, length, drop}
use Rattle.field_rules.specs.Ops.{Ops}
use Rattle.field_rules.specs.Fields.{dot_of}
use Rattle.poly_rules.specs.Polynomials.{coefficient, degree, IsMonic}

-- Of the first n items of s. Recurrences c_1, .., c_L stand in their monic form c_L, .., c_1, 1. The sum of its products
-- with the items from an index on is the discrepancy there, and zero where the recurrence holds. current is one that
-- holds of the n items. saved is an earlier one, or a multiple of it: where L is the degree of current, it holds at the
-- indices below L - 1 and fails at L - 1, within the n items, and inverse is the inverse of its discrepancy there. While
-- L is 0, nothing has failed, and nothing is said of saved.
pub record IsSolving {A : Type 0} (ops : Ops A) (s : List A) (n : ℕ) (current saved : List A) (inverse : A) : Type 0 where
  pub monic : IsMonic ops (degree current) current
  pub holds : (k : ℕ) → k + degree current < n → dot_of ops current (drop k s) ≡ ops.zero
  pub some : 1 ≤ length saved
  pub room : degree current + degree saved ≤ n
  pub saved_holds : (k : ℕ) → k + 1 < degree current → dot_of ops saved (drop k s) ≡ ops.zero
  pub saved_fails : (k : ℕ) → k + 1 ≡ degree current → ops.times (dot_of ops saved (drop k s)) inverse ≡ ops.one

-- r has at each index of s from n on what f gives where it ends there: as a recurrence's monic form its discrepancy
pub record AreDiscrepancies {A : Type 0} (ops : Ops A) (s f : List A) (n : ℕ) (r : List A) : Type 0 where
  pub each : (j : ℕ) → n ≤ j → j < length s → coefficient ops r j ≡ dot_of ops f (drop (j - degree f) s)

-- Beside a search of the first n items: the discrepancies of the current one at the items that follow, and those of the
-- saved one behind the item where it failed.
pub record IsCarried {A : Type 0} (ops : Ops A) (s : List A) (n : ℕ) (current saved r q : List A) : Type 0 where
  pub coming : AreDiscrepancies ops s current n r
  pub behind : AreDiscrepancies ops s saved (degree current + degree saved) q
