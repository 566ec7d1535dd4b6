use Rattle.std.proofs.Common.{◌++◌, ap, ◌∙◌}
use Rattle.list_multiples.proofs.RowLists.{row_more}
use Rattle.list_multiples.proofs.rows.rows_of.Goals as goal

pub loop-r-preserved : goal.loop-r-preserved
loop-r-preserved g c =
    row_more g.F.Field.ops g.F.Field.bits_of c.args.list.now c.loop-r.r c.loop-r.rows.items c.in_ok-row.row.items c.extend_from_slice.new.self.items c.loop-r.invariant c.in_ok-row.ensures
    (c.in_ok-extend_from_slice.ensures.items ∙ ap (λ z. c.loop-r.rows.items ++ z) c.as_slice-in-loop-r.ensures.value)
