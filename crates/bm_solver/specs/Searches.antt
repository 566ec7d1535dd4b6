-- A search for the shortest recurrence of some items, which reads them one after another.
use Rattle.std.specs.Prelude.{◌≡◌, ℕ, ◌≤◌, List, length}
use Rattle.field_rules.specs.Ops.{Ops}
use Rattle.recurrence_laws.specs.Solving.{IsSolving, IsCarried}

-- the items, how many of them are read, and the recurrence c_1, .., c_L of these
pub record SearchState (A : Type 0) : Type 0 where
  pub items : List A
  pub read : ℕ
  pub recurrence : List A

-- what a search keeps of the first n items: its two recurrences in their monic form with their discrepancies r and q,
-- as many as there are items, and room for as many more
pub record IsSearching {A : Type 0} (ops : Ops A) (items : List A) (n : ℕ) (current saved : List A) (inverse : A) (r q room : List A) : Type 0 where
  pub within : n ≤ length items
  pub solving : IsSolving ops items n current saved inverse
  pub carried : IsCarried ops items n current saved r q
  pub current_size : length r ≡ length items
  pub saved_size : length q ≡ length items
  pub room_size : length room ≡ length items
