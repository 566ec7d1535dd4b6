-- Offsets, which stay at the greatest number of 64 bits.
use Rattle.std.proofs.Common.{◌≡◌, ℕ, ◌+◌, ◌^◌, ◌<◌, arith}
use Rattle.wire_rules.specs.Stream.{later_offset}

pub later_offset-none : (p : ℕ) → p < 2 ^ 64 → later_offset p 0 ≡ p
later_offset-none p low = omega arith

-- offsets add up
pub later_offset-later_offset : (p n k : ℕ) → later_offset (later_offset p n) k ≡ later_offset p (n + k)
later_offset-later_offset p n k = omega arith

pub later_offset-low : (p n : ℕ) → later_offset p n < 2 ^ 64
later_offset-low p n = omega arith

pub later_offset-twice : (p n : ℕ) → later_offset (later_offset p 0) n ≡ later_offset p n
later_offset-twice p n = omega arith
