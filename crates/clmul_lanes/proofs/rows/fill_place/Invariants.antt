use Rattle.std.proofs.Common.{◌≡◌, ℕ, ◌+◌, ◌*◌, ◌<◌, length, slice_index}
use Rattle.field_rules.specs.Elements.{product}
use Rattle.clmul_lanes.proofs.rows.fill_place.Given as goal

abbrev pub invariant-loop-j : goal.invariant-loop-j
invariant-loop-j l = record {
  size : length l.next ≡ 32;
  kept : (r m : ℕ) → r < 16 * l.i → m < 32 → slice_index l.rows (32 * r + m) ≡ slice_index l.fn.rows (32 * r + m);
  made : (v m : ℕ) → v < 16 → m < l.j → slice_index l.rows (32 * (16 * l.i + v) + m) ≡ product 32 (slice_index l.firsts m) v;
  done : (m : ℕ) → m < l.j → slice_index l.next m ≡ product 32 (product 32 (slice_index l.firsts m) 8) 2;
}
