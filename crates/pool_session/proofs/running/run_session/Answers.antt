use Rattle.node_rules.specs.State.{opening_state}
use Rattle.session_rules.specs.Session.{session_start}
use Rattle.pool_session.proofs.Received.{received-none, where-err}
use Rattle.pool_session.proofs.running.run_session.Goals as goal

pub returns-in_err-node-clause-starved : goal.returns-in_err-node-clause-starved
returns-in_err-node-clause-starved g c =
    where-err c.from_residual.result (received-none (g.W.Wire.link c.args.wire.now) c.args.rounds (session_start (opening_state c.args.config c.args.pool)) c.requires.unused)
