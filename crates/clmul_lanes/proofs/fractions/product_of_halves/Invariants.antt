use Rattle.std.proofs.Common.{◌≡◌, ℕ, ◌+◌, ◌<◌, ◌≤◌, List, length, slice_index_or}
use Rattle.clmul_lanes.specs.declared.lane32.Lane32.{Lane32}
use Rattle.clmul_lanes.specs.Lane32.{ops, zero_of}
use Rattle.clmul_lanes.specs.Fractions.{IsLocator}
use Rattle.fraction_laws.specs.Locators.{even_half, odd_half}
use Rattle.fraction_laws.proofs.SeriesProducts.{first_rows}
use Rattle.clmul_lanes.proofs.fractions.product_of_halves.Given as goal

abbrev pub invariant-loop-i : goal.invariant-loop-i
invariant-loop-i l = record {
  size : length l.product ≡ 33;
  done : (k : ℕ) → k < l.i → slice_index_or l.product k zero_of ≡ slice_index_or l.odd k zero_of;
  rest : (k : ℕ) → l.i ≤ k → k < 33 → slice_index_or l.product k zero_of ≡ zero_of;
}

abbrev pub invariant-loop-i-2 : goal.invariant-loop-i-2
invariant-loop-i-2 l = record {
  size : length l.product ≡ 33;
  rows : (es : List Lane32) → length es ≤ 32 → IsLocator es l.locator → (j : ℕ) → j < 33 → slice_index_or l.product j zero_of ≡ first_rows ops (l.i + 1) (even_half ops es) (odd_half ops es) j;
}
