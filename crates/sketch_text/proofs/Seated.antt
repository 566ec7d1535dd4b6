-- Numbers that have taken their seats.
use Rattle.std.proofs.Common.{◌≡◌, ◌≢◌, ℕ, ◌<◌, ◌≤◌, List, length, slice_index}
use Rattle.sketch_text.specs.Seats.{home}

-- x isn't 0 and has a seat, and none from its home up to it is free
pub record IsSeated (seats : List ℕ) (x : ℕ) : Type 0 where
  pub some : x ≢ 0
  pub seat : ℕ
  pub within : seat < length seats
  pub behind : home x (length seats) ≤ seat
  pub here : slice_index seats seat ≡ x
  pub taken : (k : ℕ) → home x (length seats) ≤ k → k < seat → slice_index seats k ≢ 0
