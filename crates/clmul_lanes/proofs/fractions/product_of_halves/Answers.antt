use Rattle.std.proofs.Common.{◌≡◌, ◌+◌, ◌-◌, refl, arith}
use Rattle.clmul_lanes.proofs.Locators.{zeros_are, first_row, next_row_added, next_row_size, all_rows}
use Rattle.clmul_lanes.proofs.fractions.product_of_halves.Goals as goal

pub loop-i-init : goal.loop-i-init
loop-i-init c = record { size = refl; done = λ k lt. absurd (omega arith); rest = λ k le lt. zeros_are 33 _ refl k lt }

pub loop-i-2-init : goal.loop-i-2-init
loop-i-2-init c = let end : c.loop-i.i ≡ 16 = omega arith in record {
  size = c.loop-i.invariant.size;
  rows = λ es small is. first_row es c.args.locator.now c.odd_half-odd.result small is c.odd_half-odd.ensures.each c.loop-i.product c.loop-i.i end c.loop-i.invariant.done c.loop-i.invariant.rest;
}

pub loop-i-2-preserved : goal.loop-i-2-preserved
loop-i-2-preserved c =
    let width : c.loop-i-2.i + 17 - (c.loop-i-2.i + 1) ≡ 16 = omega arith in
    record {
      size = next_row_size c.loop-i-2.i _ _ c.loop-i-2.product c.odd_half-odd.result c.axpy.new.acc c.loop-i-2-test.true width c.odd_half-odd.ensures.size c.loop-i-2.invariant.size c.axpy.ensures;
      rows = λ es small is.
          next_row_added es c.args.locator.now c.odd_half-odd.result small is c.odd_half-odd.ensures.each c.loop-i-2.i _ _ c.index-locator-i.result c.loop-i-2.product c.axpy.new.acc c.loop-i-2-test.true width refl
          c.odd_half-odd.ensures.size c.loop-i-2.invariant.size c.axpy.ensures (c.loop-i-2.invariant.rows es small is);
    }

pub returns : goal.returns
returns c es small is = let end : c.loop-i-2.i ≡ 16 = omega arith in all_rows es c.loop-i-2.product c.loop-i-2.i small end (c.loop-i-2.invariant.rows es small is)
