use Rattle.std.proofs.Common.{◌<◌, length, sym, ◌∙◌, ap, arith}
use Rattle.field_rules.specs.Ops.{with_odd_powers}
use Rattle.field_core.proofs.PowerSums.{both_none, both-take}
use Rattle.clmul_lanes.specs.Lane32.{ops, ring}
use Rattle.clmul_lanes.proofs.small_sums.add_each.Goals as goal

pub loop-e-init : goal.loop-e-init
loop-e-init c = sym (both_none ops ring c.args.acc.now)

pub loop-e-preserved : goal.loop-e-preserved
loop-e-preserved c = let inside : c.loop-e.e-index < length c.args.elements.now = omega arith in
    c.odd_powers_into.ensures
    ∙ ap (with_odd_powers ops c.e-item.result 0) c.loop-e.invariant
    ∙ both-take ops ring c.args.acc.now c.args.elements.now c.e-item.result c.loop-e.e-index (length c.args.acc.now) inside c.e-item.is
