use Rattle.std.proofs.Common.{◌++◌, arith}
use Rattle.pair_rules.specs.World.{deliveries}
use Rattle.script_text.proofs.Lists.{delivered_all, delivered_more}
use Rattle.script_text.proofs.events.push_deliveries.Goals as goal

pub loop-preserved : goal.loop-preserved
loop-preserved c =
    delivered_more 16 c.loop.counter c.loop.events.items c.push_event.new.events.items c.push_event-in-loop.new.events.items (c.args.events.now.items ++ deliveries 16) (omega (arith, c.loop-test.true))
    c.in_ok-push_event.ensures c.in_ok-push_event-2.ensures c.loop.invariant

pub returns : goal.returns
returns c = delivered_all 16 c.loop.counter c.loop.events.items (c.args.events.now.items ++ deliveries 16) (omega (arith, c.loop-test.false)) c.loop.invariant
