use Rattle.std.proofs.Common.{◌≡◌, ◌+◌, ◌-◌, ◌^◌, ◌<◌, ◌≤◌, [], ◌++◌, length, get_or, take, replicate, subst, ◌∙◌, arith}
use Rattle.std.specs.Prelude.{IfSome}
use Rattle.std.proofs.lemmas.List.{get_or_default}
use Rattle.std.proofs.lemmas.Result.{IfOk-weaker}
use Rattle.sequence_laws.specs.Sequences.{row_of, IsSquareSequence}
use Rattle.trace_sequences.proofs.RowLists.{row_read, row_squared, some_before}
use Rattle.trace_sequences.proofs.rows.next_row.Goals as goal

pub returns-in-Some-clause-row : goal.returns-in-Some-clause-row
returns-in-Some-clause-row g c = λ es f u differ is unit size even odd sums are.
    (let power : (c.in-Some.power ≡ 2 ^ length c.args.rows.now) × (c.in-Some.power < length c.args.sums.now) =
    subst (λ o. IfSome o (λ p. (p ≡ 2 ^ length c.args.rows.now) × (p < length c.args.sums.now))) c.in-Some.is c.power_below.ensures.power in
    IfOk-weaker c.row_in_sums.result (λ row. row.items ≡ replicate (c.args.n - 1 - c.in-Some.power) g.F.Field.ops.zero ++ take (c.in-Some.power + 1) c.args.sums.now)
    (λ row. row.items ≡ row_of g.F.Field.ops u es (length c.args.rows.now))
    (λ row made. row_read g.F.Field.ops g.met.F.Field.ring u es c.args.sums.now row.items (length c.args.rows.now) c.args.n c.in-Some.power unit size power.0 power.1 c.requires.sums.1 sums made)
    c.row_in_sums.ensures)

pub returns-in-None-clause-row : goal.returns-in-None-clause-row
returns-in-None-clause-row g c = λ es f u differ is unit size even odd sums are.
    (let some : 1 ≤ length c.args.rows.now = some_before c.args.rows.now c.power_below.result c.in-None.is c.power_below.ensures.first in
    let last : c.as_slice.result.now ≡ get_or c.args.rows.now (length c.args.rows.now - 1) [] =
    c.as_slice.ensures ∙ c.index-rows-rows.is ∙ get_or_default c.args.rows.now (length c.args.rows.now - 1) c.index-rows-rows.result [] (omega (arith, some)) in
    IfOk-weaker c.square_sequence.result (λ t. IsSquareSequence g.F.Field.ops f c.as_slice.result.now t.items)
    (λ row. row.items ≡ row_of g.F.Field.ops u es (length c.args.rows.now))
    (λ row made. row_squared g.F.Field.ops g.met.F.Field.ring u es g.F.Field.BITS g.met.F.Field.field f c.as_slice.result.now row.items c.args.rows.now differ is unit some are last made)
    (c.square_sequence.ensures.square f even odd))
