use Rattle.std.proofs.Common.{◌≡◌, map, take}
use Rattle.sketch_rules.specs.Sketches.{sketch_of}
use Rattle.recon_set.proofs.sums.sketch_of_shorts.Given as goal

abbrev pub invariant-loop-short : goal.invariant-loop-short
invariant-loop-short g l = map g.F.Field.bits_of l.sketch ≡ sketch_of (take l.short-index l.shorts) l.capacity
