use Rattle.std.proofs.Common.{◌≡◌, ℕ, ◌-◌, ◌*◌, ◌/◌, ◌^◌, ◌<◌}
use Rattle.field_rules.specs.Elements.{carryless_product}
use Rattle.field_core.specs.Windows.{IsWindowTable}
use Rattle.field_core.proofs.carryless.product_by_windows.Given as goal

abbrev pub invariant-loop-i : goal.invariant-loop-i
invariant-loop-i l = (a : ℕ) → a < 2 ^ 32 → IsWindowTable a l.table → l.sum ≡ carryless_product (4 * l.i) a (l.b / 2 ^ (32 - 4 * l.i))
