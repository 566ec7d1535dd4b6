-- A table of numbers other than 0, in which a number sits at its home or behind it: a free seat is a 0.
use Rattle.std.specs.Prelude.{◌≡◌, ◌≢◌, ℕ, ◌*◌, ◌/◌, ◌%◌, ◌^◌, ◌<◌, ◌≤◌, List, length, slice_index}

-- where the seats for x begin, of so many
unfoldable pub home : ℕ → ℕ → ℕ
home x seats = x * 2654435769 % 2 ^ 32 * seats % 2 ^ 64 / 2 ^ 32

-- the seat is free, and of those from x's home up to it none is free or has x
pub record IsFreeSeat (seats : List ℕ) (x seat : ℕ) : Type 0 where
  pub within : seat < length seats
  pub behind : home x (length seats) ≤ seat
  pub free : slice_index seats seat ≡ 0
  pub passed : (k : ℕ) → home x (length seats) ≤ k → k < seat → (slice_index seats k ≢ 0) × (slice_index seats k ≢ x)
