use Rattle.std.proofs.Common.{◌≡◌, ◌≢◌, ℕ, ◌+◌, ◌<◌, true, get_or}
use Rattle.pool_rules.specs.Snapshots.{sketched_shorts}
use Rattle.node_rules.specs.Outcomes.{is_in}
use Rattle.responder.proofs.asks.are_sketched_once.Given as goal

abbrev pub invariant-loop-i : goal.invariant-loop-i
invariant-loop-i g l =
    ((k : ℕ) → k < l.i → is_in (sketched_shorts l.snapshot.members) (get_or l.sorted k 0) ≡ true)
    × ((k : ℕ) → k + 1 < l.i → get_or l.sorted k 0 ≢ get_or l.sorted (k + 1) 0)
