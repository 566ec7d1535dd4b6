use Rattle.std.proofs.Common.{◌*◌, length, drop, sym, ap, subst, ◌∙◌, arith}
use Rattle.field_rules.specs.Fields.{with_multiple}
use Rattle.list_multiples.specs.Rows.{row_of, row_count, AreRows}
use Rattle.list_multiples.proofs.list_multiples.ListMultiples.add_multiple.Goals as goal

pub add_by_rows-requires-clause-inside : goal.add_by_rows-requires-clause-inside
add_by_rows-requires-clause-inside g c = omega (arith, c.requires, c.self.invariant.size, ap length c.self.view_is)

pub add_by_rows-requires-clause-rows : goal.add_by_rows-requires-clause-rows
add_by_rows-requires-clause-rows g c =
    ap length c.as_slice.ensures.value ∙ c.self.invariant.are.size ∙ ap (λ z. row_count g.F.Field.BITS * z) c.self.invariant.size

pub returns : goal.returns
returns g c =
    c.add_by_rows.ensures (row_of c.self.inside.len c.self.inside.rows.items 1) c.self.invariant.size
    (subst (AreRows g.F.Field.ops g.F.Field.bits_of (row_count g.F.Field.BITS) (row_of c.self.inside.len c.self.inside.rows.items 1)) (sym c.as_slice.ensures.value) c.self.invariant.are)
    ∙ ap (λ z. with_multiple g.F.Field.ops c.args.acc.now c.args.k (drop 0 z)) c.self.view_is
