-- Elements of one nibble.
use Rattle.std.specs.Prelude.{◌≡◌, ℕ, ◌*◌, ◌/◌, ◌%◌, ◌^◌, ◌<◌, List, length, slice_index_or}
use Rattle.clmul_lanes.specs.declared.lane32.Lane32.{Lane32}
use Rattle.clmul_lanes.specs.Lane32.{bits_of, zero_of}

-- the list has at index 16 i + v, for each value v of nibble i, the element that has this nibble and no other
pub record AreNibbleValues (list : List Lane32) : Type 0 where
  pub size : length list ≡ 128
  pub each : (r : ℕ) → r < 128 → bits_of (slice_index_or list r zero_of) ≡ r % 16 * 2 ^ (4 * (r / 16))
