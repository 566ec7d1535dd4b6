use Rattle.std.proofs.Common.{◌≡◌, ◌++◌, ◌≤◌, ◌^◌, length, take, drop, subst, sym, ◌∙◌, arith}
use Rattle.std.proofs.lemmas.List.{take_at}
use Rattle.list_multiples.specs.Rows.{IsRow}
use Rattle.list_multiples.proofs.Factors.{power_row, no_power_row}
use Rattle.list_multiples.proofs.rows.products.Goals as goal

pub returns-then-j-BITS : goal.returns-then-j-BITS
returns-then-j-BITS g c =
    let past : g.F.Field.BITS ≤ c.args.j = omega (arith, c.BITS.ensures, c.if-j-BITS.true) in
    no_power_row g.F.Field.ops g.F.Field.bits_of g.F.Field.BITS g.met.F.Field.numbered g.met.F.Field.ring c.args.j c.args.list.now c.in_ok-row.row.items past c.in_ok-row.ensures

pub returns : goal.returns
returns g c =
    let whole : take c.in_ok-row.row.len (c.axpy.new.acc ++ drop (length c.axpy.new.acc) c.in_ok-row.row.items) ≡ c.axpy.new.acc =
    take_at c.axpy.new.acc (drop (length c.axpy.new.acc) c.in_ok-row.row.items) c.in_ok-row.row.len (omega arith) in
    subst (IsRow g.F.Field.ops g.F.Field.bits_of (2 ^ c.args.j) c.args.list.now) (sym whole)
    (power_row g.F.Field.ops g.F.Field.bits_of g.F.Field.BITS g.met.F.Field.numbered g.met.F.Field.ring c.args.j c.basis.result c.args.list.now c.as_mut_slice.result.now c.axpy.new.acc c.basis.ensures (c.as_mut_slice.ensures.value ∙ c.in_ok-row.ensures) c.axpy.ensures)
