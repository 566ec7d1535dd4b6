use Rattle.std.proofs.Common.{◌≡◌, ◌≢◌, ℕ, ◌+◌, ◌*◌, ◌<◌, slice_index}
use Rattle.clmul_lanes.proofs.rows.set_column.Given as goal

abbrev pub invariant-loop-v : goal.invariant-loop-v
invariant-loop-v l = record {
  kept : (r m : ℕ) → r < 16 * l.i → m < 32 → slice_index l.rows (32 * r + m) ≡ slice_index l.fn.rows (32 * r + m);
  others : (r m : ℕ) → m < 32 → m ≢ l.j → slice_index l.rows (32 * r + m) ≡ slice_index l.fn.rows (32 * r + m);
  made : (u : ℕ) → u < l.v → slice_index l.rows (32 * (16 * l.i + u) + l.j) ≡ slice_index l.words u;
}
