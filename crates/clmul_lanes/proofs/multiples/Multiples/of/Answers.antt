use Rattle.std.proofs.Common.{rules, ◌^◌, ◌<◌, length, lit<, sym, arith, refl, ◌∙◌}
use Rattle.std.proofs.Math.ListN.{length-set}
use Rattle.field_laws.proofs.Rings.{product-one}
use Rattle.clmul_lanes.proofs.Nibbles.{table_is, tables_more, shifted_next}
use Rattle.clmul_lanes.proofs.multiples.Multiples.of.Goals as goal

pub loop-table-init : goal.loop-table-init
loop-table-init c = let fits : c.args.factor < 2 ^ 32 = search rules in record {
  long = refl;
  shifted_is = λ _. sym (product-one 32 c.args.factor (lit< tt) fits);
  done = λ i below. absurd (omega arith);
}

pub loop-table-preserved : goal.loop-table-preserved
loop-table-preserved c = let fits : c.args.factor < 2 ^ 32 = search rules in
    let index : c.loop-table.table-index < 8 = omega arith in
    let long : c.loop-table.table-index < length c.loop-table.table-items = omega arith in
    record {
      long = length-set c.loop-table.table-items c.loop-table.table-index c.nibble_multiples-multiples.result ∙ c.loop-table.invariant.long;
      shifted_is = λ more. shifted_next c.args.factor c.loop-table.shifted _ c.doubled-shifted.result c.loop-table.table-index fits more (c.loop-table.invariant.shifted_is index) (c.nibble_multiples-multiples.ensures 8 (lit< tt)) c.doubled-shifted.ensures;
      done = tables_more c.args.factor c.loop-table.table-index c.loop-table.table-items c.nibble_multiples-multiples.result long c.loop-table.invariant.done
          (table_is c.args.factor c.loop-table.shifted c.loop-table.table-index c.nibble_multiples-multiples.result fits index (c.loop-table.invariant.shifted_is index) c.nibble_multiples-multiples.ensures);
    }
