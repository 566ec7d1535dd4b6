use Rattle.std.proofs.Common.{◌≡◌, take}
use Rattle.node_rules.specs.Outcomes.{missing_short_ids}
use Rattle.initiator.proofs.outcome.missing.Given as goal

-- those of the short ids so far
abbrev pub invariant-loop-short : goal.invariant-loop-short
invariant-loop-short g l = l.asks.items ≡ missing_short_ids l.snapshot.members (take l.short-index l.shorts)
