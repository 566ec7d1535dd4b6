use Rattle.std.proofs.lemmas.Result.{err_from_is_err_and}
use Rattle.node_rules.specs.Opener.{opener_sketch}
use Rattle.sketch_answers.proofs.Answered.{move_of, if_moved, told_as, refused_as}
use Rattle.sketch_answers.proofs.take_sketch.Goals as goal

pub returns-in_err-asked-clause-told : goal.returns-in_err-asked-clause-told
returns-in_err-asked-clause-told g c =
    let p = err_from_is_err_and c.from_residual.result c.from_residual.ensures.1 in
    rw (p.1, p.2) (told_as g.F.Field.bits_of c.args.machine.now c.args.set.now c.args.skdata.now c.in_err-asked.field-0.0 c.in_err-asked.ensures)

pub returns-in_err-asked-clause-refused : goal.returns-in_err-asked-clause-refused
returns-in_err-asked-clause-refused g c =
    let p = err_from_is_err_and c.from_residual.result c.from_residual.ensures.1 in
    rw (p.1, p.2) (refused_as g.F.Field.bits_of c.args.machine.now c.args.set.now c.args.skdata.now c.in_err-asked.field-0.0 c.in_err-asked.ensures)

pub returns-in_err-answer-clause-refused : goal.returns-in_err-answer-clause-refused
returns-in_err-answer-clause-refused g c =
    let v = move_of g.F.Field.bits_of c.args.machine.now c.args.set.now c.args.skdata.now c.in_ok-asked.asked c.in_ok-asked.ensures in
    if_moved (opener_sketch c.args.machine.now c.args.set.now c.args.skdata.now) _ v.0 v.1

pub returns-in_err-on_answer-clause-refused : goal.returns-in_err-on_answer-clause-refused
returns-in_err-on_answer-clause-refused g c =
    let v = move_of g.F.Field.bits_of c.args.machine.now c.args.set.now c.args.skdata.now c.in_ok-asked.asked c.in_ok-asked.ensures in
    if_moved (opener_sketch c.args.machine.now c.args.set.now c.args.skdata.now) _ v.0 v.1
