use Rattle.erlay_c.proofs.Lengths.{merge_fits}
use Rattle.erlay_c.proofs.Found.{merged_set}
use Rattle.erlay_c.proofs.erlay_merge.Goals as goal

pub write_front-requires : goal.write_front-requires
write_front-requires c = merge_fits c.args.sketch.now c.args.other.now c.merge-outcome.result c.merge-outcome.ensures

pub returns-clause-set : goal.returns-clause-set
returns-clause-set c xs ys n set_xs set_ys is other_is done =
    merged_set c.args.sketch.now c.write_front.new.buffer c.write_front.result c.args.other.now c.merge-outcome.result c.merge-outcome.ensures c.write_front.ensures.code c.write_front.ensures.buffer xs ys n set_xs set_ys is other_is done
