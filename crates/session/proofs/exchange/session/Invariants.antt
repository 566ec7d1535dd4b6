use Rattle.std.proofs.Common.{◌≡◌, ◌≤◌, ◌-◌, true, vec_len}
use Rattle.node_rules.specs.State.{opening_state}
use Rattle.session_rules.specs.Session.{session_start}
use Rattle.session_rules.specs.declared.limits.TheConstants.{PIECE_LIMIT, SESSION_LIMIT}
use Rattle.session.specs.Standing.{IsStanding, is_opener}
use Rattle.session.proofs.exchange.session.Given as goal

abbrev pub invariant-loop-answer : goal.invariant-loop-answer
invariant-loop-answer g l = record {
  linked : g.W.Wire.is_linked l.wire ≡ true;
  buffer : vec_len l.buffer ≡ PIECE_LIMIT;
  most : l.progress.received ≤ SESSION_LIMIT;
  role : l.progress.opens ≡ is_opener l.fn.node.state.config.role;
  standing : IsStanding l.progress.opens l.rounds (session_start (opening_state l.fn.node.state.config l.fn.node.state.pool)) (g.W.Wire.link l.fn.wire) (g.W.Wire.link l.wire) (g.W.Wire.has_ended l.wire) l.node l.progress.left l.progress.received;
  same : g.W.Wire.faults l.wire ≡ g.W.Wire.faults l.fn.wire;
}

abbrev pub decreases-loop-answer : goal.decreases-loop-answer
decreases-loop-answer g l = SESSION_LIMIT - l.progress.received
