use Rattle.std.proofs.Common.{rules, ◌^◌, ◌<◌}
use Rattle.field_core.proofs.Reductions.{fold_by_shifts}
use Rattle.field_core.proofs.carryless.folded.Goals as goal

pub returns : goal.returns
returns c = let fits : c.args.p < 2 ^ 64 = search rules in fold_by_shifts c.args.p fits
