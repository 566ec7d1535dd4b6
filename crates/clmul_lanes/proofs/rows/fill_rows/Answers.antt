use Rattle.std.proofs.Common.{lit<, refl, sym, arith}
use Rattle.std.proofs.Common.{slice_index}
use Rattle.field_rules.specs.Elements.{product}
use Rattle.field_laws.proofs.Rings.{product-one}
use Rattle.clmul_lanes.proofs.Nibbles.{shifted_next}
use Rattle.clmul_lanes.proofs.RowFactors.{place_made}
use Rattle.clmul_lanes.proofs.rows.fill_rows.Goals as goal

pub loop-i-init : goal.loop-i-init
loop-i-init c = record {
  size = c.told-list;
  firsts = λ some j inside fits. sym (product-one 32 (slice_index c.args.list.now j) (lit< tt) fits);
  done = λ r j lt. absurd (omega arith);
}

pub loop-i-preserved : goal.loop-i-preserved
loop-i-preserved c = record {
  size = c.fill_place-firsts.ensures.size;
  firsts = λ more j inside fits.
      shifted_next (slice_index c.args.list.now j) (slice_index c.loop-i.firsts j) (product 32 (slice_index c.loop-i.firsts j) 8) (slice_index c.fill_place-firsts.result j) c.loop-i.i fits more
      (c.loop-i.invariant.firsts c.loop-i-test.true j inside fits) refl (c.fill_place-firsts.ensures.next j inside);
  done = place_made c.args.list.now c.loop-i.firsts c.loop-i.rows c.fill_place-firsts.new.rows c.loop-i.i c.loop-i-test.true (c.loop-i.invariant.firsts c.loop-i-test.true)
      c.fill_place-firsts.ensures.kept c.fill_place-firsts.ensures.made c.loop-i.invariant.done;
}
