use Rattle.std.proofs.Common.{◌+◌, ◌*◌, ◌/◌, length, refl, sym, arith}
use Rattle.clmul_lanes.specs.Lane32.{ops, ring}
use Rattle.field_core.proofs.PowerSums.{both_none}
use Rattle.clmul_lanes.proofs.Added.{part_added, rest_added}
use Rattle.clmul_lanes.proofs.fractions.add_by_fractions.Goals as goal

pub loop-n-init : goal.loop-n-init
loop-n-init c = sym (both_none ops ring c.args.acc.now)

pub loop-n-preserved : goal.loop-n-preserved
loop-n-preserved c =
    part_added ops ring c.args.acc.now c.loop-n.acc c.args.elements.now _ c.add_fraction.new.acc (32 * c.loop-n.n) _ (32 * (c.loop-n.n + 1)) c.loop-n.invariant refl (omega arith) c.add_fraction.ensures

pub returns-then-rest-lt-FRACTIONS_PAY_FROM : goal.returns-then-rest-lt-FRACTIONS_PAY_FROM
returns-then-rest-lt-FRACTIONS_PAY_FROM c =
    rest_added ops ring c.args.acc.now c.loop-n.acc c.args.elements.now _ _ (32 * c.loop-n.n) (32 * (length c.args.elements.now / 32)) _ c.loop-n.invariant (omega arith) refl (omega arith) c.add_each.ensures

pub returns-else-rest-lt-FRACTIONS_PAY_FROM : goal.returns-else-rest-lt-FRACTIONS_PAY_FROM
returns-else-rest-lt-FRACTIONS_PAY_FROM c =
    rest_added ops ring c.args.acc.now c.loop-n.acc c.args.elements.now _ _ (32 * c.loop-n.n) (32 * (length c.args.elements.now / 32)) _ c.loop-n.invariant (omega arith) refl (omega arith) c.add_fraction-else-rest-lt-FRACTIONS_PAY_FROM.ensures
