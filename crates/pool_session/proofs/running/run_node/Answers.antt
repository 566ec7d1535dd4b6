use Rattle.session_rules.specs.declared.session_end.SessionEnd.TheVariants as session_end
use Rattle.pool_session.proofs.Received.{received-by, where-err}
use Rattle.pool_session.proofs.running.run_node.Goals as goal

pub returns-in-Done-clause-starved : goal.returns-in-Done-clause-starved
returns-in-Done-clause-starved g c =
    where-err c.keep.result
    (received-by c.args.rounds c.args.node.now (g.W.Wire.link c.args.wire.now) (g.W.Wire.link c.session.new.wire) (g.W.Wire.has_ended c.session.new.wire) c.session.new.node session_end.Done c.in-Done.ensures.session)

pub returns-in-OutOfMemory-clause-starved : goal.returns-in-OutOfMemory-clause-starved
returns-in-OutOfMemory-clause-starved g c =
    received-by c.args.rounds c.args.node.now (g.W.Wire.link c.args.wire.now) (g.W.Wire.link c.session.new.wire) (g.W.Wire.has_ended c.session.new.wire) c.session.new.node session_end.OutOfMemory c.in-OutOfMemory.ensures.session
