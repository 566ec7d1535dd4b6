use Rattle.std.proofs.Common.{Vec, Global, [], ap, ◌∙◌}
use Rattle.line_rules.specs.Reading.{line_fold}
use Rattle.line_text.specs.Views.{line_of}
use Rattle.line_text.proofs.Steps.{line_fold-step, line_fold-none}
use Rattle.pair_rules.specs.declared.event.Event.{Event}
use Rattle.protocol_text_rules.specs.Scripts.{script_step}
use Rattle.tx_pool.proofs.Folding.{outcome_at}
use Rattle.script_text.proofs.script.events_of.Goals as goal

pub returns-in-Err : goal.returns-in-Err
returns-in-Err c =
    outcome_at {A = Unit {0}} {C = Vec Event Global} script_step (λ _. c.push_line.new.events.items) (λ events. events.items) [] c.loop-line.events.items c.args.lines c.loop-line.line-iterator c.next.new.self (line_of c.in-Some.line) c.in-Err.stop c.at.result
    c.loop-line.invariant c.in-Some.ensures.steps c.in-Err.ensures c.at.ensures

pub loop-line-preserved : goal.loop-line-preserved
loop-line-preserved c =
    c.loop-line.invariant ∙ ap (line_fold script_step c.loop-line.events.items) c.in-Some.ensures.steps
    ∙ line_fold-step script_step c.loop-line.events.items (line_of c.in-Some.line) c.next.new.self c.push_line.new.events.items c.in-Ok.ensures

pub returns : goal.returns
returns c =
    c.loop-line.invariant ∙ ap (line_fold script_step c.loop-line.events.items) c.in-None.ensures.steps.0 ∙ line_fold-none script_step c.loop-line.events.items
