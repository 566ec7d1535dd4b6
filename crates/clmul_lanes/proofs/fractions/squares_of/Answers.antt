use Rattle.std.proofs.Common.{◌≡◌, ◌<◌, subst, sym, arith}
use Rattle.clmul_lanes.proofs.Locators.{squares_are}
use Rattle.clmul_lanes.proofs.fractions.squares_of.Goals as goal

pub returns : goal.returns
returns c es is = let end : c.loop-j.j ≡ 32 = omega arith in
    squares_are es c.args.locator.now c.loop-j.squares is (λ j lt. c.loop-j.invariant.done j (subst (λ n. j < n) (sym end) lt))
