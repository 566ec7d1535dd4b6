use Rattle.std.proofs.Common.{◌≡◌, ◌+◌, ◌*◌, ◌/◌, ◌^◌, length, replicate, subst, ap₂, ◌∙◌}
use Rattle.std.proofs.lemmas.Result.{IfOk-weaker}
use Rattle.field_rules.specs.Lists.{sums_of_both}
use Rattle.list_multiples.specs.Rows.{factor, IsRow}
use Rattle.list_multiples.proofs.Factors.{zero_row, power_factor, row_of_sum}
use Rattle.list_multiples.proofs.rows.next_row.Goals as goal

pub returns-then-value-eq0 : goal.returns-then-value-eq0
returns-then-value-eq0 g c =
    IfOk-weaker c.zeros.result (λ row. row.items ≡ replicate (length c.args.list.now) g.F.Field.ops.zero) (λ row. IsRow g.F.Field.ops g.F.Field.bits_of (factor c.args.r) c.args.list.now row.items)
    (λ row is. zero_row g.F.Field.ops g.F.Field.bits_of g.F.Field.BITS g.met.F.Field.numbered g.met.F.Field.ring c.args.r c.args.list.now row.items c.if-value-eq0.true is) c.zeros.ensures

pub returns-then-value-high : goal.returns-then-value-high
returns-then-value-high g c =
    IfOk-weaker c.products.result (λ row. IsRow g.F.Field.ops g.F.Field.bits_of (2 ^ (4 * (c.args.r / 16) + c.highest_bit-bit.result)) c.args.list.now row.items) (λ row. IsRow g.F.Field.ops g.F.Field.bits_of (factor c.args.r) c.args.list.now row.items)
    (λ row is. subst (λ z. IsRow g.F.Field.ops g.F.Field.bits_of z c.args.list.now row.items) (power_factor c.args.r c.highest_bit-bit.result (c.if-value-high.true ∙ c.power_of_two-high.ensures)) is) c.products.ensures

pub returns-else-value-high : goal.returns-else-value-high
returns-else-value-high g c =
    IfOk-weaker c.sums.result (λ row. row.items ≡ sums_of_both g.F.Field.ops c.row_at.result.now c.row_at-else-value-high.result.now) (λ row. IsRow g.F.Field.ops g.F.Field.bits_of (factor c.args.r) c.args.list.now row.items)
    (λ row is. row_of_sum g.F.Field.ops g.F.Field.bits_of g.F.Field.BITS g.met.F.Field.numbered g.met.F.Field.ring c.args.r c.highest_bit-bit.result c.power_of_two-high.result c.args.list.now c.args.rows.now row.items
    c.power_of_two-high.ensures c.highest_bit-bit.ensures.least c.highest_bit-bit.ensures.most c.if-value-high.false c.requires.before
    (is ∙ ap₂ (sums_of_both g.F.Field.ops) c.row_at.ensures c.row_at-else-value-high.ensures)) c.sums.ensures
