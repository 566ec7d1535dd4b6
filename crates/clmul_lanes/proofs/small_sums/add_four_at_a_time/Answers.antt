use Rattle.std.proofs.Common.{◌+◌, ◌*◌, ◌/◌, length, refl, sym, arith}
use Rattle.field_core.proofs.PowerSums.{both_none}
use Rattle.clmul_lanes.specs.Lane32.{ops, ring}
use Rattle.clmul_lanes.proofs.Added.{part_added, rest_added}
use Rattle.clmul_lanes.proofs.FractionSteps.{four_items}
use Rattle.clmul_lanes.proofs.small_sums.add_four_at_a_time.Goals as goal

pub loop-n-init : goal.loop-n-init
loop-n-init c = sym (both_none ops ring c.args.acc.now)

pub loop-n-preserved : goal.loop-n-preserved
loop-n-preserved c =
    part_added ops ring c.args.acc.now c.loop-n.acc c.args.elements.now _ c.add_four.new.acc (4 * c.loop-n.n) 4 (4 * (c.loop-n.n + 1)) c.loop-n.invariant
    (four_items c.args.elements.now (4 * c.loop-n.n) c.index-elements-n.result c.index-elements-n-in-loop-n.result c.index-elements-n-in-loop-n-2.result c.index-elements-n-in-loop-n-3.result (omega arith)
    c.index-elements-n.is c.index-elements-n-in-loop-n.is c.index-elements-n-in-loop-n-2.is c.index-elements-n-in-loop-n-3.is)
    (omega arith) c.add_four.ensures

pub returns : goal.returns
returns c = rest_added ops ring c.args.acc.now c.loop-n.acc c.args.elements.now _ _ (4 * c.loop-n.n) (4 * (length c.args.elements.now / 4)) _ c.loop-n.invariant (omega arith) refl (omega arith) c.add_each.ensures
