use Rattle.std.proofs.Common.{◌≡◌, map, take}
use Rattle.sketch_rules.specs.Sketches.{bytes_of}
use Rattle.sketch_bytes.proofs.to_bytes.Given as goal

abbrev pub invariant-loop-sum : goal.invariant-loop-sum
invariant-loop-sum g l = l.bytes.items ≡ bytes_of (map g.F.Field.bits_of (take l.sum-index l.sums))
