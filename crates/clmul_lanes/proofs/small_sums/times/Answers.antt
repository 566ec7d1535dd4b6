use Rattle.std.proofs.Common.{◌≡◌, ap, subst, ◌∙◌}
use Rattle.field_rules.specs.Elements.{product, remainder}
use Rattle.field_core.specs.Windows.{IsWindowTable}
use Rattle.clmul_lanes.specs.Lane32.{bits_of}
use Rattle.clmul_lanes.proofs.Blocks.{times_of_bits}
use Rattle.clmul_lanes.proofs.small_sums.times.Goals as goal

pub returns : goal.returns
unfolding product
returns c b bits is table =
    let reduced : c.reduce.result ≡ product 32 (bits_of b) c.get.result =
    c.reduce.ensures ∙ ap (remainder 32 32) (c.product_by_windows.ensures (bits_of b) b.small (subst (λ n. IsWindowTable n c.args.table.now) is table)) in
    times_of_bits c.args.a b c.new.result (c.new.ensures ∙ reduced ∙ ap (product 32 (bits_of b)) c.get.ensures)
