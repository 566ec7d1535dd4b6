use Rattle.std.proofs.Common.{◌-◌, ◌*◌, ◌/◌, ◌%◌, ◌^◌, bit_and, bit_xor, sym, ◌∙◌, ap, arith}
use Rattle.field_laws.proofs.Carryless.{carryless_product-zero}
use Rattle.field_core.proofs.Windows.{window-below, window-next}
use Rattle.field_core.proofs.carryless.product_by_windows.Goals as goal

pub loop-i-init : goal.loop-i-init
loop-i-init c a fits is = sym (carryless_product-zero a (c.args.b / 2 ^ 32))

pub loop-i-preserved : goal.loop-i-preserved
loop-i-preserved c a fits is =
    ap (bit_xor (c.loop-i.sum * 16 % 2 ^ 64)) (is (bit_and (c.args.b / 2 ^ (28 - 4 * c.loop-i.i)) 15) (window-below (c.args.b / 2 ^ (28 - 4 * c.loop-i.i))))
    ∙ window-next a c.args.b c.loop-i.sum c.loop-i.i fits (omega arith) (c.loop-i.invariant a fits is)
