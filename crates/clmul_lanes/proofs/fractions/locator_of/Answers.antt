use Rattle.std.proofs.Common.{◌+◌, ◌-◌, length, drop, refl, subst, arith, length-drop}
use Rattle.clmul_lanes.specs.Fractions.{IsLocator}
use Rattle.clmul_lanes.proofs.FractionSteps.{drop_back}
use Rattle.clmul_lanes.proofs.Locators.{no_factors, factor_more}
use Rattle.clmul_lanes.proofs.fractions.locator_of.Goals as goal

pub loop-n-init : goal.loop-n-init
loop-n-init c = no_factors c.args.elements.now _ refl

pub loop-n-preserved : goal.loop-n-preserved
loop-n-preserved c =
    subst (λ es. IsLocator es c.add_multiple.new.acc)
    (drop_back c.args.elements.now c.index-elements-elements.result c.loop-n.n (omega arith) c.index-elements-elements.is)
    (factor_more (drop (length c.args.elements.now - c.loop-n.n) c.args.elements.now) _ (c.loop-n.n + 1) c.loop-n.locator c.moved_up-up.result c.add_multiple.new.acc
    (omega (arith, length-drop (length c.args.elements.now - c.loop-n.n) c.args.elements.now)) (omega arith) c.loop-n.invariant c.moved_up-up.ensures.size c.moved_up-up.ensures.first c.moved_up-up.ensures.later c.add_multiple.ensures)
