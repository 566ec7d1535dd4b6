use Rattle.std.proofs.Common.{◌≡◌, ◌<◌, ◌≤◌, length, drop, sym, ◌∙◌, arith, length-set}
use Rattle.field_laws.proofs.Dots.{with_multiple-more, with_multiple-done}
use Rattle.clmul_lanes.specs.Lane32.{ops, ring}
use Rattle.clmul_lanes.proofs.axpy.axpy_by_products.Goals as goal

pub loop-i-preserved : goal.loop-i-preserved
loop-i-preserved c =
    let inside : c.loop-i.i < length c.args.x.now = omega (arith, c.loop-i.invariant.paired) in
    let within : c.loop-i.i < length c.loop-i.acc = omega (arith, c.loop-i.invariant.paired) in
    let product : c.times.result ≡ ops.times c.args.k c.index-x-i.result = c.times.ensures c.args.k c.get.result c.get.ensures c.window_table-multiples.ensures ∙ ring.times_comm c.index-x-i.result c.args.k in
    record {
      paired = length-set c.loop-i.acc c.loop-i.i c.add.result ∙ c.loop-i.invariant.paired;
      rest = rw (c.add.ensures.sum, product) (with_multiple-more ops c.args.k c.index-acc-i.result c.index-x-i.result c.loop-i.i c.loop-i.acc c.args.x.now within inside c.index-acc-i.is c.index-x-i.is ∙ c.loop-i.invariant.rest);
    }

pub returns : goal.returns
returns c = let past : length c.loop-i.acc ≤ c.loop-i.i = omega (arith, c.loop-i.invariant.paired) in
    sym (with_multiple-done ops c.args.k c.loop-i.i c.loop-i.acc (drop c.loop-i.i c.args.x.now) past) ∙ c.loop-i.invariant.rest
