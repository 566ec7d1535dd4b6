use Rattle.pool_rules.specs.Snapshots.{sketched_shorts}
use Rattle.responder.proofs.AskFaults.{AreChecked}
use Rattle.responder.proofs.asks.check_in_order.Given as goal

abbrev pub invariant-loop-ask : goal.invariant-loop-ask
invariant-loop-ask g l = AreChecked (sketched_shorts l.snapshot.members) l.asks l.before.keys l.ask-index
