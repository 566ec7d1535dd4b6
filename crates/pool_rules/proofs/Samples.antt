-- What the worked examples share.
use Rattle.std.specs.Prelude.{codes}
use Rattle.std.specs.Fmt.{digits}
use Rattle.base_types.specs.declared.lists.Hash32.{Hash32}
use Rattle.line_rules.specs.Lines.{lines, numbered_lines}
use Rattle.line_rules.specs.Numbers.{digits_onto}
use Rattle.line_rules.specs.Reading.{line_fold}
use Rattle.field_rules.specs.Elements.{carryless_product, remainder, product}
use Rattle.field_rules.specs.Ops.{power}
use Rattle.field_rules.specs.Lists.{sums_of_both}
use Rattle.sketch_rules.specs.PowerSums.{power_sum, odd_power_sums}
use Rattle.sketch_rules.specs.Sets.{sorted_insertion, sorted_numbers}
use Rattle.sketch_rules.specs.Sketches.{sums_in}
use Rattle.id_rules.proofs.Samples.{hashing, from_digits}
use Rattle.pool_rules.specs.Pools.{AreDistinctIds, insertion_by}
use Rattle.pool_rules.specs.PoolFile.{pool_step, pool_of_count, pool_of_lines}

-- an example that has this in its line `unfolding` computes sums of sketches and differences of sets
unfoldable pub sketching : Unit {0}
unfolding carryless_product remainder product power power_sum odd_power_sums sorted_insertion sorted_numbers sums_of_both sums_in
sketching = tt

-- the same for lines of text
unfoldable pub lining : Unit {0}
unfolding lines numbered_lines line_fold digits digits_onto
lining = tt

-- the same for pools
unfoldable pub pooling : Unit {0}
unfolding hashing lining AreDistinctIds insertion_by pool_step pool_of_count pool_of_lines
pooling = tt

-- the ids of the bytes of 'hello' and 'abc'
abbrev pub hello_id : Hash32
hello_id = record { 0 = from_digits (codes "9595c9df90075148eb06860365df33584b75bff782a510c6cd4883a419833d50") }

abbrev pub abc_id : Hash32
abc_id = record { 0 = from_digits (codes "4f8b42c22dd3729b519ba6f68d2da7cc5b2d606d05daed5ad5128cc03e6c6358") }
