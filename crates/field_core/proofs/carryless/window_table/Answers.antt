use Rattle.field_core.proofs.Windows.{multiples_are}
use Rattle.field_core.proofs.carryless.window_table.Goals as goal

pub returns : goal.returns
returns c = multiples_are c.args.a
