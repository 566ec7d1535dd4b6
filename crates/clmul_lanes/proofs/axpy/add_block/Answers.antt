use Rattle.std.proofs.Common.{rules, ◌≡◌, ◌<◌, ◌≤◌, Fits, w32, length, map, get_or, drop, sym, ap, ◌∙◌, arith, length-set}
use Rattle.std.specs.Simd.Lanes.{Each1}
use Rattle.std.proofs.lemmas.Simd.{Each1-from_get_or}
use Rattle.std.proofs.lemmas.List.{get_or_default, get_or-map, length-map}
use Rattle.field_rules.specs.Elements.{product}
use Rattle.field_laws.proofs.Dots.{with_multiple-more, with_multiple-done}
use Rattle.clmul_lanes.specs.declared.lane32.Lane32.{Lane32}
use Rattle.clmul_lanes.specs.Lane32.{ops, bits_of, zero_of, same_bits}
use Rattle.clmul_lanes.proofs.Blocks.{each_product}
use Rattle.clmul_lanes.proofs.axpy.add_block.Goals as goal

pub loop-i-preserved : goal.loop-i-preserved
loop-i-preserved c =
    let inside : c.loop-i.i < length c.args.x.now = omega (arith, c.loop-i.invariant.paired) in
    let within : c.loop-i.i < length c.loop-i.acc = omega (arith, c.loop-i.invariant.paired) in
    let a : Lane32 = get_or c.args.x.now c.loop-i.i zero_of in
    let long : length c.bits_in.result ≡ 16 = omega arith in
    let placed : c.loop-i.i < length c.bits_in.result = omega (arith, c.requires.1, long) in
    let fits : Each1 (Fits w32) c.bits_in.result = Each1-from_get_or (Fits w32) c.bits_in.result 0 (λ i lt. search rules) in
    record {
      paired = length-set c.loop-i.acc c.loop-i.i c.add.result ∙ c.loop-i.invariant.paired;
      rest = λ k are. let product_is : c.new.result ≡ ops.times k a =
          same_bits c.new.result (ops.times k a)
          (c.new.ensures
          ∙ ap (λ ws. get_or ws c.loop-i.i 0) (c.words_of-products.ensures (map (λ w. product 32 (bits_of k) w) c.bits_in.result) (length-map c.bits_in.result (λ w. product 32 (bits_of k) w) ∙ long) (each_product (bits_of k) k.small c.bits_in.result fits) (c.planes_of_products.ensures (bits_of k) c.bits_in.result k.small are fits c.planes_of.ensures))
          ∙ get_or-map (λ w. product 32 (bits_of k) w) c.bits_in.result c.loop-i.i 0 0 placed
          ∙ ap (product 32 (bits_of k)) (c.bits_in.ensures c.loop-i.i inside)) in
          rw (c.add.ensures.sum, product_is) (with_multiple-more ops k c.index-acc-i.result a c.loop-i.i c.loop-i.acc c.args.x.now within inside c.index-acc-i.is (get_or_default c.args.x.now c.loop-i.i zero_of a inside) ∙ c.loop-i.invariant.rest k are);
    }

pub returns : goal.returns
returns c k are = let past : length c.loop-i.acc ≤ c.loop-i.i = omega (arith, c.loop-i.invariant.paired) in
    sym (with_multiple-done ops k c.loop-i.i c.loop-i.acc (drop c.loop-i.i c.args.x.now) past) ∙ c.loop-i.invariant.rest k are
