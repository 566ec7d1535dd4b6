use Rattle.std.proofs.Common.{◌≡◌, true, length}
use Rattle.session.specs.Standing.{StandsThen}
use Rattle.session.proofs.exchange.send_all.Given as goal

abbrev pub invariant-loop-wire : goal.invariant-loop-wire
invariant-loop-wire g l = record {
  linked : g.W.Wire.is_linked l.wire ≡ true;
  standing : StandsThen (g.W.Wire.link l.fn.wire) (g.W.Wire.has_ended l.fn.wire) l.fn.node (g.W.Wire.link l.wire) (g.W.Wire.has_ended l.wire) l.node;
  same : g.W.Wire.faults l.wire ≡ g.W.Wire.faults l.fn.wire;
}

abbrev pub decreases-loop-wire : goal.decreases-loop-wire
decreases-loop-wire g l = length l.node.outbox
