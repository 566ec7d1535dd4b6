use Rattle.std.proofs.Common.{rules, ◌^◌, ◌<◌}
use Rattle.field_core.proofs.carryless.carryless_product.Goals as goal

pub returns : goal.returns
returns c = let fits : c.args.a < 2 ^ 32 = search rules in c.product_by_windows.ensures c.args.a fits c.window_table.ensures
