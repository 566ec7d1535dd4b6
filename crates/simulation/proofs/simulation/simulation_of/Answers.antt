use Rattle.std.proofs.Common.{◌∙◌}
use Rattle.protocol_text_rules.specs.Pairs.{simulation}
use Rattle.simulation.proofs.NewPairs.{alike, finished}
use Rattle.simulation.proofs.Runs.{end-of, text-of}
use Rattle.simulation.proofs.simulation.simulation_of.Goals as goal

pub returns-clause-text : goal.returns-clause-text
returns-clause-text c = c.in_ok-run_text.ensures ∙ text-of (simulation c.args.script.now) c.in_ok-duet.duet c.in_ok-duet.ensures c.args.with_ids

pub returns-clause-end : goal.returns-clause-end
returns-clause-end c =
    rw (c.or.ensures, c.end.ensures, c.a.ensures.state, c.end-2.ensures, c.b.ensures.state)
    (end-of (simulation c.args.script.now) c.in_ok-duet.duet c.in_ok-duet.ensures)

pub returns-clause-finished : goal.returns-clause-finished
returns-clause-finished c = finished c.args.script.now c.requires

pub returns-clause-alike : goal.returns-clause-alike
returns-clause-alike c = alike c.args.script.now c.requires
