use Rattle.std.proofs.Common.{codes}
use Rattle.pair_rules.specs.World.{deliveries}
use Rattle.script_text.proofs.Forms.{line_test, line_events-drain}
use Rattle.script_text.proofs.Scripts.{script_step-more}
use Rattle.script_text.proofs.line.push_line.Goals as goal

pub returns-then-eq : goal.returns-then-eq
returns-then-eq c =
    script_step-more c.args.events.now.items (deliveries 16) c.push_deliveries.new.events.items c.args.line.now (line_events-drain c.args.line.now (line_test c.args.line.now c.as_slice.result.now (codes "drain") c.eq.ensures c.as_slice.ensures c.if-eq.true)) c.in_ok-push_deliveries.ensures
