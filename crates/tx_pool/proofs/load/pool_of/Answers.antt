use Rattle.std.proofs.Common.{[], ap, ◌∙◌}
use Rattle.line_rules.specs.Reading.{line_fold}
use Rattle.line_text.specs.Views.{line_of}
use Rattle.line_text.proofs.Steps.{line_fold-step, line_fold-none}
use Rattle.pool_rules.specs.PoolFile.{pool_step}
use Rattle.tx_pool.proofs.Folding.{outcome_at}
use Rattle.tx_pool.proofs.load.pool_of.Goals as goal

pub returns-in-Err : goal.returns-in-Err
returns-in-Err c =
    outcome_at {A = Unit {0}} pool_step (λ _. c.add_line.new.self) (λ pool. pool) [] c.loop-line.pool c.args.lines c.loop-line.line-iterator c.next.new.self (line_of c.in-Some.line) c.in-Err.stop c.at.result
    c.loop-line.invariant c.in-Some.ensures.steps c.in-Err.ensures c.at.ensures

pub loop-line-preserved : goal.loop-line-preserved
loop-line-preserved c =
    c.loop-line.invariant ∙ ap (line_fold pool_step c.loop-line.pool) c.in-Some.ensures.steps
    ∙ line_fold-step pool_step c.loop-line.pool (line_of c.in-Some.line) c.next.new.self c.add_line.new.self c.in-Ok.ensures

pub returns : goal.returns
returns c = c.loop-line.invariant ∙ ap (line_fold pool_step c.loop-line.pool) c.in-None.ensures.steps.0 ∙ line_fold-none pool_step c.loop-line.pool
