use Rattle.std.proofs.Common.{◌≢◌, ℕ, ◌<◌, slice_index}
use Rattle.sketch_text.proofs.Seated.{IsSeated}
use Rattle.sketch_text.proofs.seats.are_seen_distinct.Given as goal

-- the numbers so far have seats, and no two of them are equal
abbrev pub invariant-loop-i : goal.invariant-loop-i
invariant-loop-i l = record {
  seated : (k : ℕ) → k < l.i → IsSeated l.seats.items (slice_index l.numbers k);
  apart : (a b : ℕ) → a < b → b < l.i → slice_index l.numbers a ≢ slice_index l.numbers b;
}
