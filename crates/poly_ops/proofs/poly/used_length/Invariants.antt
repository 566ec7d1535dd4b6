use Rattle.std.proofs.Common.{◌≡◌, ℕ, ◌≤◌, length}
use Rattle.poly_rules.specs.Polynomials.{coefficient}
use Rattle.poly_ops.proofs.poly.used_length.Given as goal

abbrev pub invariant-loop-used : goal.invariant-loop-used
invariant-loop-used g l = record {
  within : l.used ≤ length l.coeffs;
  zeros : (i : ℕ) → l.used ≤ i → coefficient g.F.Field.ops l.coeffs i ≡ g.F.Field.ops.zero;
}

abbrev pub decreases-loop-used : goal.decreases-loop-used
decreases-loop-used g l = l.used
