use Rattle.std.proofs.Common.{◌≡◌, length, map, drop, ◌∙◌, ap, arith}
use Rattle.field_rules.specs.Lists.{sums_of_both}
use Rattle.sketch_core.proofs.Both.{written_back, both-numbers, merged_difference}
use Rattle.sketch_core.proofs.sketch.Sketch.merge_into.Goals as goal

pub returns-clause-sums : goal.returns-clause-sums
returns-clause-sums g c =
    let long : c.self.inside.sums.len ≡ length c.add_each.new.sums = omega arith in
    written_back c.self.inside.sums.len c.add_each.new.sums (drop (length c.add_each.new.sums) c.self.inside.sums.items) long
    ∙ c.add_each.ensures
    ∙ ap (λ xs. sums_of_both g.F.Field.ops xs c.sums.result.now) (c.as_mut_slice.ensures.value ∙ c.self.view_is)
    ∙ ap (sums_of_both g.F.Field.ops c.args.self.now) c.sums.ensures

pub returns-clause-numbers : goal.returns-clause-numbers
returns-clause-numbers g c =
    ap (map g.F.Field.bits_of) (returns-clause-sums g c)
    ∙ both-numbers g.F.Field.ops g.F.Field.bits_of g.F.Field.BITS g.met.F.Field.numbered c.args.self.now c.args.other.now

pub returns-clause-difference : goal.returns-clause-difference
returns-clause-difference g c xs ys h k first second =
    returns-clause-numbers g c
    ∙ merged_difference g.F.Field.BITS (length c.args.self.now) (map g.F.Field.bits_of c.args.self.now) (map g.F.Field.bits_of c.args.other.now) xs ys h k first second
