use Rattle.list_multiples.proofs.Factors.{list_row, all_rows}
use Rattle.list_multiples.proofs.list_multiples.ListMultiples.of.Goals as goal

pub invariant_of-result : goal.invariant_of-result
invariant_of-result g c = all_rows g.F.Field.ops g.F.Field.bits_of g.F.Field.BITS g.met.F.Field.numbered g.met.F.Field.ring c.args.list.now c.in_ok-rows.rows.items c.in_ok-rows.ensures

pub returns : goal.returns
returns g c = list_row g.F.Field.ops g.F.Field.bits_of g.F.Field.BITS g.met.F.Field.numbered g.met.F.Field.ring c.args.list.now c.in_ok-rows.rows.items c.in_ok-rows.ensures
