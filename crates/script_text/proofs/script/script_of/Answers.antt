use Rattle.std.proofs.Common.{Vec, Global, List, [], subst, sym, ap, ◌∙◌, arith}
use Rattle.line_rules.specs.Lines.{lines_of}
use Rattle.line_rules.specs.Reading.{line_fold}
use Rattle.line_text.specs.Gives.{IsOutcome}
use Rattle.pair_rules.specs.declared.event.Event.{Event}
use Rattle.protocol_text_rules.specs.Scripts.{script_step}
use Rattle.script_text.proofs.Scripts.{events_of_lines-few, events_of_lines-many}
use Rattle.script_text.proofs.Sound.{outcome-sound}
use Rattle.script_text.proofs.script.script_of.Goals as goal

pub returns-then-lines-clause-read : goal.returns-then-lines-clause-read
returns-then-lines-clause-read c = events_of_lines-many c.count-lines.result (lines_of c.args.text.now) c.count-lines.ensures (omega (arith, c.if-lines.true))

pub returns-clause-read : goal.returns-clause-read
returns-clause-read c =
    let few = events_of_lines-few c.count-lines.result (lines_of c.args.text.now) c.count-lines.ensures (omega (arith, c.if-lines.false)) in
    subst (IsOutcome {A = Vec Event Global} {B = List Event} (λ events. events.items) c.events_of.result) (ap (line_fold script_step []) c.of.ensures ∙ sym few) c.events_of.ensures

pub returns-clause-sound : goal.returns-clause-sound
returns-clause-sound c = outcome-sound c.args.text.now c.events_of.result (returns-clause-read c)
