use Rattle.std.proofs.Common.{◌≡◌, ◌*◌, ◌++◌, map, drop}
use Rattle.sketch_rules.specs.Sketches.{sums_in}
use Rattle.sketch_bytes.proofs.sums_of.Given as goal

abbrev pub invariant-loop-i : goal.invariant-loop-i
invariant-loop-i g l = map g.F.Field.bits_of l.sums.items ++ sums_in (drop (4 * l.i) l.bytes) ≡ sums_in l.bytes
