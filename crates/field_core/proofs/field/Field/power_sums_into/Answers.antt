use Rattle.std.proofs.Common.{◌<◌, length, sym, ◌∙◌, ap, arith}
use Rattle.field_rules.specs.Ops.{with_odd_powers}
use Rattle.field_core.proofs.PowerSums.{both_none, both-take}
use Rattle.field_core.proofs.field.Field.power_sums_into.Goals as goal

pub loop-e-init : goal.loop-e-init
loop-e-init g c = sym (both_none g.Self.Field.ops g.met.Self.Field.ring c.args.acc.now)

pub loop-e-preserved : goal.loop-e-preserved
loop-e-preserved g c = let inside : c.loop-e.e-index < length c.args.elements.now = omega arith in
    c.odd_powers_into.ensures
    ∙ ap (with_odd_powers g.Self.Field.ops c.e-item.result 0) c.loop-e.invariant
    ∙ both-take g.Self.Field.ops g.met.Self.Field.ring c.args.acc.now c.args.elements.now c.e-item.result c.loop-e.e-index (length c.args.acc.now) inside c.e-item.is
