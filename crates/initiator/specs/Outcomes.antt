-- How a round ends: what is told of it, the coefficient of the next one, and what is sent.
use Rattle.std.specs.Prelude.{ℕ, true, false, List, [], ◌∷◌, ◌++◌}
use Rattle.wire_rules.specs.declared.message.Message.TheVariants as message
use Rattle.pool_rules.specs.Capacity.{next_q_failed}
use Rattle.pool_rules.specs.Snapshots.{ids_of}
use Rattle.pool_rules.specs.declared.report.Ending.{Ending}
use Rattle.pool_rules.specs.declared.report.Ending.TheVariants as ending
use Rattle.node_rules.specs.Opener.{coefficient_after}
use Rattle.node_rules.specs.Outcomes.{missing_short_ids, announcement, report_of}
use Rattle.node_rules.specs.State.{Round}
use Rattle.node_rules.specs.Turns.{inv_of}
use Rattle.initiator.specs.declared.outcome.Outcome.{Outcome}

-- of a round that is answered by a set, with this ping
abbrev pub answered_outcome : Round → Ending → List ℕ → ℕ → Outcome
answered_outcome r e es ping = record {
  report = report_of r e es;
  coefficient = coefficient_after r.snapshot es;
  messages = message.ReconcilDiff true (missing_short_ids r.snapshot es) ∷ (inv_of (announcement r.snapshot es) ++ message.Ping ping ∷ []);
}

-- of one that falls back, with this coefficient and this ping
abbrev pub fallback_outcome : Round → ℕ → ℕ → Outcome
fallback_outcome r q ping = record {
  report = report_of r ending.Fallback [];
  coefficient = next_q_failed q;
  messages = message.ReconcilDiff false [] ∷ (inv_of (ids_of r.snapshot) ++ message.Ping ping ∷ []);
}
