use Rattle.std.proofs.Common.{◌≡◌, []}
use Rattle.line_rules.specs.Reading.{line_fold}
use Rattle.protocol_text_rules.specs.Scripts.{script_step}
use Rattle.script_text.proofs.script.events_of.Given as goal

-- the lines that are left, behind the events so far
abbrev pub invariant-loop-line : goal.invariant-loop-line
invariant-loop-line l = line_fold script_step [] l.fn.lines ≡ line_fold script_step l.events.items l.line-iterator
