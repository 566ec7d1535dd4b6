use Rattle.std.proofs.Common.{◌≡◌, ◌+◌, ◌-◌, ◌*◌, ◌/◌, ◌++◌, length, take, drop, subst, ap, ◌∙◌, arith}
use borrow.Rule.Slice.PartMut.{put_mid}
use Rattle.field_rules.specs.Fields.{with_multiple}
use Rattle.clmul_lanes.specs.Lane32.{ops}
use Rattle.clmul_lanes.specs.Tables.{AreByteTables}
use Rattle.clmul_lanes.proofs.Blocks.{block_added, rest_added}
use Rattle.clmul_lanes.proofs.axpy.axpy_by_lanes.Goals as goal

pub loop-n-preserved : goal.loop-n-preserved
loop-n-preserved c =
    let next : 16 * (c.loop-n.n + 1) ≡ 16 * c.loop-n.n + (16 * c.loop-n.n + 16 - 16 * c.loop-n.n) = omega arith in
    ap (λ m. take m (put_mid (16 * c.loop-n.n) (16 * c.loop-n.n + 16 - 16 * c.loop-n.n) c.loop-n.acc c.add_block.new.acc) ++ with_multiple ops (drop m (put_mid (16 * c.loop-n.n) (16 * c.loop-n.n + 16 - 16 * c.loop-n.n) c.loop-n.acc c.add_block.new.acc)) c.args.k (drop m c.args.x.now)) next
    ∙ block_added ops c.args.k (16 * c.loop-n.n) (16 * c.loop-n.n + 16 - 16 * c.loop-n.n) c.loop-n.acc c.args.x.now c.add_block.new.acc (omega arith) (c.add_block.ensures c.args.k (subst (λ z. AreByteTables z c.byte_tables-tables.result) c.get.ensures c.byte_tables-tables.ensures))
    ∙ c.loop-n.invariant

pub returns : goal.returns
returns c =
    let past : length c.args.x.now / 16 ≡ c.loop-n.n = omega arith in
    rest_added ops c.args.k _ _ _ c.loop-n.acc c.args.x.now c.add_rest.new.acc (omega arith) (omega arith) (c.add_rest.ensures c.args.k (subst (λ z. AreByteTables z c.byte_tables-tables.result) c.get.ensures c.byte_tables-tables.ensures))
    ∙ ap (λ n. take (16 * n) c.loop-n.acc ++ with_multiple ops (drop (16 * n) c.loop-n.acc) c.args.k (drop (16 * n) c.args.x.now)) past
    ∙ c.loop-n.invariant
