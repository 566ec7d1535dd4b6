use Rattle.std.proofs.Common.{◌≢◌, ℕ, ◌<◌, ◌≤◌, slice_index}
use Rattle.sketch_text.proofs.seats.free_seat.Given as goal

-- none of the seats that were passed is free or has the number
abbrev pub invariant-loop-seat : goal.invariant-loop-seat
invariant-loop-seat l = record {
  from : l.first ≤ l.seat;
  passed : (k : ℕ) → l.first ≤ k → k < l.seat → (slice_index l.seats k ≢ 0) × (slice_index l.seats k ≢ l.number);
}
