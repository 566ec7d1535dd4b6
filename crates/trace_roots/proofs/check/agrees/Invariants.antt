use Rattle.std.proofs.Common.{◌≡◌, ℕ, ◌*◌, ◌<◌}
use Rattle.poly_rules.specs.Polynomials.{coefficient}
use Rattle.trace_roots.proofs.check.agrees.Given as goal

abbrev pub invariant-loop-i : goal.invariant-loop-i
invariant-loop-i g l = (k : ℕ) → k < l.i → coefficient g.F.Field.ops l.odd k ≡ coefficient g.F.Field.ops l.sums (2 * k)
