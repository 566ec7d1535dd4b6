use Rattle.std.proofs.Common.{◌<◌, ◌≤◌, [], ◌∷◌, length, sym, ap, ◌∙◌, arith}
use Rattle.field_core.proofs.OddPowers.{power_one, odd_power_next}
use Rattle.clmul_lanes.specs.Lane32.{ops, ring}
use Rattle.clmul_lanes.proofs.Added.{none_added, one_added, all_added}
use Rattle.clmul_lanes.proofs.FractionSteps.{four_added}
use Rattle.clmul_lanes.proofs.small_sums.add_four.Goals as goal

pub loop-a-init : goal.loop-a-init
loop-a-init c = record {
  d_is = sym (power_one ops ring c.args.d);
  e_is = sym (power_one ops ring c.args.e);
  f_is = sym (power_one ops ring c.args.f);
  g_is = sym (power_one ops ring c.args.g);
  added = none_added ops (c.args.d ∷ c.args.e ∷ c.args.f ∷ c.args.g ∷ []) c.args.acc.now;
}

pub loop-a-preserved : goal.loop-a-preserved
loop-a-preserved c = let inside : c.loop-a.a-index < length c.loop-a.acc = omega arith in record {
  d_is = c.times-d_power.ensures c.square.result c.get.result c.get.ensures c.window_table-d_square.ensures ∙ odd_power_next ops ring c.args.d c.loop-a.d_power c.square.result c.loop-a.a-index c.loop-a.invariant.d_is c.square.ensures;
  e_is = c.times-e_power.ensures c.square-2.result c.get-2.result c.get-2.ensures c.window_table-e_square.ensures ∙ odd_power_next ops ring c.args.e c.loop-a.e_power c.square-2.result c.loop-a.a-index c.loop-a.invariant.e_is c.square-2.ensures;
  f_is = c.times-f_power.ensures c.square-3.result c.get-3.result c.get-3.ensures c.window_table-f_square.ensures ∙ odd_power_next ops ring c.args.f c.loop-a.f_power c.square-3.result c.loop-a.a-index c.loop-a.invariant.f_is c.square-3.ensures;
  g_is = c.times-g_power.ensures c.square-4.result c.get-4.result c.get-4.ensures c.window_table-g_square.ensures ∙ odd_power_next ops ring c.args.g c.loop-a.g_power c.square-4.result c.loop-a.a-index c.loop-a.invariant.g_is c.square-4.ensures;
  added = one_added ops (c.args.d ∷ c.args.e ∷ c.args.f ∷ c.args.g ∷ []) c.loop-a.a-index c.args.acc.now c.loop-a.acc c.add-in-loop-a-3.result inside
      (four_added c.args.d c.args.e c.args.f c.args.g c.loop-a.d_power c.loop-a.e_power c.loop-a.f_power c.loop-a.g_power c.add-in-loop-a-3.result c.loop-a.a-index c.loop-a.acc c.a-item.result inside
      c.loop-a.invariant.d_is c.loop-a.invariant.e_is c.loop-a.invariant.f_is c.loop-a.invariant.g_is
      (c.add-in-loop-a-3.ensures.sum ∙ ap (λ z. ops.plus z c.loop-a.g_power) (c.add-in-loop-a-2.ensures.sum ∙ ap (λ z. ops.plus z c.loop-a.f_power) (c.add-in-loop-a.ensures.sum ∙ ap (λ z. ops.plus z c.loop-a.e_power) c.add.ensures.sum))))
      c.loop-a.invariant.added;
}

pub returns : goal.returns
returns c = let past : length c.args.acc.now ≤ c.loop-a.a-index = omega arith in
    all_added ops (c.args.d ∷ c.args.e ∷ c.args.f ∷ c.args.g ∷ []) c.loop-a.a-index c.args.acc.now c.loop-a.acc past c.loop-a.invariant.added
