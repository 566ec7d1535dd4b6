use Rattle.std.proofs.Common.{◌-◌, length, drop}
use Rattle.clmul_lanes.specs.Fractions.{IsLocator}
use Rattle.clmul_lanes.proofs.fractions.locator_of.Given as goal

abbrev pub invariant-loop-n : goal.invariant-loop-n
invariant-loop-n l = IsLocator (drop (length l.elements - l.n) l.elements) l.locator
