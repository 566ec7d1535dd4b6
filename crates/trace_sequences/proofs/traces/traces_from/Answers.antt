use Rattle.std.proofs.Common.{◌≡◌, [], length, get_or, sym, ap, subst, ◌∙◌, arith}
use Rattle.trace_sequences.specs.Rows.{AreRows}
use Rattle.trace_sequences.proofs.RowLists.{rows_return, size_of_set}
use Rattle.trace_sequences.proofs.traces.traces_from.Goals as goal

pub returns-then-not-returns-clause-found : goal.returns-then-not-returns-clause-found
returns-then-not-returns-clause-found g c = λ u es differ is unit.
    sym c.if-not-returns.true
    ∙ c.returns.ensures
    (subst (λ z. get_or z 0 [] ≡ get_or z g.F.Field.BITS []) (sym c.as_slice.ensures.value)
    (rows_return g.F.Field.ops g.met.F.Field.ring g.F.Field.BITS g.met.F.Field.field u es c.in_ok-rows.rows.items c.in_ok-rows.ensures.count (c.in_ok-rows.ensures.rows es u differ is unit)))

pub returns-clause-traces : goal.returns-clause-traces
returns-clause-traces g c = λ u es differ is unit.
    c.in_ok-traces.ensures.each u es (omega (arith, size_of_set g.F.Field.ops g.met.F.Field.ring c.args.f.now es is, ap length c.coeffs.ensures.value))
    (subst (AreRows g.F.Field.ops u es) (sym c.as_slice-2.ensures.value) (c.in_ok-rows.ensures.rows es u differ is unit))
