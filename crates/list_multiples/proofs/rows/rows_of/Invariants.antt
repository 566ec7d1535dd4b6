use Rattle.list_multiples.specs.Rows.{AreRows}
use Rattle.list_multiples.proofs.rows.rows_of.Given as goal

abbrev pub invariant-loop-r : goal.invariant-loop-r
invariant-loop-r g l = AreRows g.F.Field.ops g.F.Field.bits_of l.r l.list l.rows.items
