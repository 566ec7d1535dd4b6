use Rattle.std.proofs.Common.{◌≡◌, map, take}
use Rattle.clmul_lanes.specs.Lane32.{bits_of}
use Rattle.erlay_c.proofs.set.field_elements.Given as goal

abbrev pub invariant-loop-number : goal.invariant-loop-number
invariant-loop-number l = map bits_of l.elements.items ≡ take l.number-index l.numbers
