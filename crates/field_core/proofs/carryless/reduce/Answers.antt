use Rattle.std.proofs.Common.{rules, ◌^◌, ◌<◌}
use Rattle.field_core.proofs.Reductions.{folds-below, folds-are}
use Rattle.field_core.proofs.carryless.reduce.Goals as goal

pub overflow_cast-result : goal.overflow_cast-result
overflow_cast-result c = let fits : c.args.p < 2 ^ 64 = search rules in
    let below : c.folded-2.result < 2 ^ 32 = folds-below c.args.p c.folded.result c.folded-2.result fits c.folded.ensures c.folded-2.ensures in
    search rules

pub returns : goal.returns
returns c = let fits : c.args.p < 2 ^ 64 = search rules in
    folds-are c.args.p c.folded.result c.folded-2.result fits c.folded.ensures c.folded-2.ensures
