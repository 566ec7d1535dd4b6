use Rattle.std.proofs.Common.{ap}
use Rattle.erlay_cli.specs.Sights.{wire_sight}
use Rattle.erlay_cli.proofs.Stages.{over_course, starved_course}
use Rattle.erlay_cli.proofs.exchange.session_course.Goals as goal

pub returns-in-Ok-clause-course : goal.returns-in-Ok-clause-course
returns-in-Ok-clause-course g c =
    rw (← c.asked.view_is) (over_course _ c.args.chance c.args.pool (g.W.Wire.link c.args.wire.now) (wire_sight g.W.Wire.link g.W.Wire.has_ended g.W.Wire.faults c.run_session.new.wire)
    (g.S.Shelf.told c.args.shelf.now) (g.S.Shelf.told c.run_session.new.shelf) c.config_of-config.result c.rounds_of.result c.config_of-config.ensures.value c.rounds_of.ensures
    c.in-Ok.outcome c.in-Ok.ensures.run c.in-Ok.ensures.input c.in-Ok.ensures.busy)

pub returns-in-Err-clause-course : goal.returns-in-Err-clause-course
returns-in-Err-clause-course g c =
    rw (← c.asked.view_is) (starved_course _ c.args.chance c.args.pool (g.W.Wire.link c.args.wire.now) (wire_sight g.W.Wire.link g.W.Wire.has_ended g.W.Wire.faults c.run_session.new.wire)
    (g.S.Shelf.told c.args.shelf.now) (g.S.Shelf.told c.run_session.new.shelf) c.config_of-config.result c.rounds_of.result c.config_of-config.ensures.value c.rounds_of.ensures
    c.in-Err.ensures.starved (ap g.S.Shelf.told c.in-Err.ensures.no_call))
