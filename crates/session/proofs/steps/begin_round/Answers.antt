use Rattle.std.proofs.Common.{arith}
use Rattle.std.proofs.lemmas.Result.{err_from_is_err_and}
use Rattle.session.proofs.Takes.{begun-none, begun-not, begun-one, begun-refused}
use Rattle.session.proofs.steps.begin_round.Goals.{else-left-gt0-via-then-left-gt0+in_ok-begin_round+else-branch, else-left-gt0-via-else-left-gt0}
use Rattle.session.proofs.steps.begin_round.Goals as goal

pub returns-in_err-begin_round : goal.returns-in_err-begin_round
returns-in_err-begin_round c =
    let p = err_from_is_err_and c.from_residual.result c.from_residual.ensures.1 in
    rw p.1 (begun-refused c.args.node.now c.begin_round.new.self c.args.left.now c.args.left.now _ c.in_err-begin_round.ensures.err)

pub returns-then-branch : goal.returns-then-branch
returns-then-branch c =
    begun-one c.args.node.now c.begin_round.new.self c.args.left.now tt c.in_ok-begin_round.field-0 c.if-left-gt0.true c.in_ok-begin_round.ensures.ok.1 c.in_ok-begin_round.ensures.told c.if-branch.true

pub returns-else-left-gt0 : goal.returns-else-left-gt0
returns-else-left-gt0 c = elim c.else-left-gt0.branch [
  | else-left-gt0-via-then-left-gt0+in_ok-begin_round+else-branch w ↦
      rw w.node-is (begun-not c.args.node.now w.begin_round.new.self c.args.left.now tt w.in_ok-begin_round.field-0 w.if-left-gt0.true w.in_ok-begin_round.ensures.ok.1 w.in_ok-begin_round.ensures.told w.if-branch.false)
  | else-left-gt0-via-else-left-gt0 w ↦
      begun-none c.args.node.now c.else-left-gt0.node c.args.left.now tt (omega (arith, w.if-left-gt0.false)) w.node-is
]
