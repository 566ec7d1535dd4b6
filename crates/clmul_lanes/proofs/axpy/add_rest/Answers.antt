use Rattle.std.proofs.Common.{rules, ◌≡◌, length, sym, arith}
use Rattle.field_laws.proofs.Dots.{with_multiple-done}
use Rattle.clmul_lanes.specs.Lane32.{ops}
use Rattle.clmul_lanes.proofs.axpy.add_rest.Goals as goal

pub returns-else-not-is_empty : goal.returns-else-not-is_empty
returns-else-not-is_empty c k are = let none : length c.args.x.now ≡ 0 = search rules in
    sym (with_multiple-done ops k 0 c.args.acc.now c.args.x.now (omega (arith, none, c.requires.0)))
