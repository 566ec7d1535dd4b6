-- Sixteen odd powers of an element at once.
use Rattle.std.specs.Prelude.{ℕ, ◌+◌, ◌*◌, List, map}
use Rattle.std.specs.List.{range_with_len}
use Rattle.field_rules.specs.Ops.{power}
use Rattle.clmul_lanes.specs.declared.lane32.Lane32.{Lane32}
use Rattle.clmul_lanes.specs.Lane32.{ops, bits_of}

-- the bits of e ^ (2i + 1), e ^ (2i + 3), ..
abbrev pub bits_of_odd_powers : Lane32 → ℕ → List ℕ
bits_of_odd_powers e i = map (λ k. bits_of (power ops e (2 * (i + k) + 1))) (range_with_len 0 16)
