use Rattle.std.proofs.Common.{rules, ℕ, ◌≡◌, ◌*◌, ◌/◌, ◌%◌, ◌^◌, ◌<◌, [], slice_index, slice_index_or, lit<}
use Rattle.field_core.proofs.LinearMaps.{word_is, words_give}
use Rattle.field_core.proofs.linear_maps.image.Goals as goal

pub returns : goal.returns
returns c f linear are = let fits : c.args.a < 2 ^ 32 = search rules in
    let word : (i nibble : ℕ) → i < 8 → nibble ≡ c.args.a / 2 ^ (4 * i) % 16 → slice_index (slice_index_or c.args.tables.now i []) nibble ≡ f (c.args.a / 2 ^ (4 * i) % 16 * 2 ^ (4 * i)) =
    word_is f linear c.args.a fits c.args.tables.now are in
    words_give f linear c.args.a fits _ _ _ _ _ _ _ _
    (word 0 c.nibble.result (lit< tt) c.nibble.ensures.value)
    (word 1 c.nibble-2.result (lit< tt) c.nibble-2.ensures.value)
    (word 2 c.nibble-3.result (lit< tt) c.nibble-3.ensures.value)
    (word 3 c.nibble-4.result (lit< tt) c.nibble-4.ensures.value)
    (word 4 c.nibble-5.result (lit< tt) c.nibble-5.ensures.value)
    (word 5 c.nibble-6.result (lit< tt) c.nibble-6.ensures.value)
    (word 6 c.nibble-7.result (lit< tt) c.nibble-7.ensures.value)
    (word 7 c.nibble-8.result (lit< tt) c.nibble-8.ensures.value)
