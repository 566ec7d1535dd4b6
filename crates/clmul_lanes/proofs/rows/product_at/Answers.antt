use Rattle.std.proofs.Common.{rules, ◌^◌, ◌<◌, slice_index, lit<, arith}
use Rattle.field_rules.specs.Elements.{product}
use Rattle.field_core.proofs.LinearMaps.{words_give}
use Rattle.clmul_lanes.proofs.Nibbles.{product_is_linear}
use Rattle.clmul_lanes.proofs.RowFactors.{word_of}
use Rattle.clmul_lanes.proofs.rows.product_at.Goals as goal

pub returns : goal.returns
returns c list are fits = let k_fits : c.args.k < 2 ^ 32 = search rules in
    words_give (product 32 (slice_index list c.args.j)) (product_is_linear (slice_index list c.args.j) fits) c.args.k k_fits _ _ _ _ _ _ _ _
    (word_of list c.args.rows.now are c.args.k 0 c.nibble.result _ c.args.j _ (lit< tt) c.nibble.ensures.value (omega arith) c.requires fits c.word_at.ensures)
    (word_of list c.args.rows.now are c.args.k 1 c.nibble-2.result _ c.args.j _ (lit< tt) c.nibble-2.ensures.value (omega arith) c.requires fits c.word_at-2.ensures)
    (word_of list c.args.rows.now are c.args.k 2 c.nibble-3.result _ c.args.j _ (lit< tt) c.nibble-3.ensures.value (omega arith) c.requires fits c.word_at-3.ensures)
    (word_of list c.args.rows.now are c.args.k 3 c.nibble-4.result _ c.args.j _ (lit< tt) c.nibble-4.ensures.value (omega arith) c.requires fits c.word_at-4.ensures)
    (word_of list c.args.rows.now are c.args.k 4 c.nibble-5.result _ c.args.j _ (lit< tt) c.nibble-5.ensures.value (omega arith) c.requires fits c.word_at-5.ensures)
    (word_of list c.args.rows.now are c.args.k 5 c.nibble-6.result _ c.args.j _ (lit< tt) c.nibble-6.ensures.value (omega arith) c.requires fits c.word_at-6.ensures)
    (word_of list c.args.rows.now are c.args.k 6 c.nibble-7.result _ c.args.j _ (lit< tt) c.nibble-7.ensures.value (omega arith) c.requires fits c.word_at-7.ensures)
    (word_of list c.args.rows.now are c.args.k 7 c.nibble-8.result _ c.args.j _ (lit< tt) c.nibble-8.ensures.value (omega arith) c.requires fits c.word_at-8.ensures)
