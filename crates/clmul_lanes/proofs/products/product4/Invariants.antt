use Rattle.std.proofs.Common.{◌≡◌, slice_index}
use Rattle.field_rules.specs.Elements.{carryless_product}
use Rattle.clmul_lanes.proofs.FourLanes.{four_of}
use Rattle.clmul_lanes.proofs.products.product4.Given as goal

abbrev pub invariant-loop-i : goal.invariant-loop-i
invariant-loop-i l = l.sum ≡ four_of (carryless_product l.i) (slice_index l.fn.a) (slice_index l.fn.b)
