use Rattle.erlay_c.proofs.Found.{decoded_set}
use Rattle.erlay_c.proofs.erlay_decode.Goals as goal

pub returns-clause-difference : goal.returns-clause-difference
returns-clause-difference c xs ys n set_xs set_ys capacity few room is =
    decoded_set c.args.sketch.now c.args.elements.now c.write_set.new.elements c.write_set.new.count c.args.count.now c.write_set.result c.decode-outcome.result c.decode-outcome.ensures c.write_set.ensures.code c.write_set.ensures.elements
    c.write_set.ensures.count xs ys n set_xs set_ys capacity few room is
