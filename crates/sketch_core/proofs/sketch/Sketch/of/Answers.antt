use Rattle.std.proofs.Common.{◌≡◌, length, drop, replicate, ◌∙◌, ap, arith}
use Rattle.std.proofs.lemmas.List.{length-replicate}
use Rattle.field_rules.specs.Lists.{sums_of_both}
use Rattle.sketch_rules.specs.PowerSums.{odd_power_sums}
use Rattle.field_core.proofs.PowerSums.{both_zeros}
use Rattle.sketch_core.proofs.Both.{written_back}
use Rattle.sketch_core.proofs.sketch.Sketch.of.Goals as goal

pub returns-clause-ok : goal.returns-clause-ok
returns-clause-ok g c =
    let long : c.in_ok-sums.sums.len ≡ length c.power_sums_into.new.acc = omega arith in
    written_back c.in_ok-sums.sums.len c.power_sums_into.new.acc (drop (length c.power_sums_into.new.acc) c.in_ok-sums.sums.items) long
    ∙ c.power_sums_into.ensures
    ∙ ap (λ xs. sums_of_both g.F.Field.ops xs (odd_power_sums g.F.Field.ops c.args.elements.now 0 (length xs))) (c.as_mut_slice.ensures.value ∙ c.in_ok-sums.ensures.ok)
    ∙ ap (λ n. sums_of_both g.F.Field.ops (replicate c.args.capacity g.F.Field.ops.zero) (odd_power_sums g.F.Field.ops c.args.elements.now 0 n)) (length-replicate c.args.capacity g.F.Field.ops.zero)
    ∙ both_zeros g.F.Field.ops g.met.F.Field.ring c.args.elements.now 0 c.args.capacity
