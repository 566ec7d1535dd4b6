use Rattle.std.proofs.Common.{ap, ◌∙◌}
use Rattle.node_rules.specs.Opener.{coefficient_after}
use Rattle.node_rules.specs.Outcomes.{missing_short_ids, announcement}
use Rattle.initiator.proofs.Moves.{answered_parts}
use Rattle.initiator.proofs.outcome.answered.Goals as goal

pub returns : goal.returns
returns g c =
    let ms = c.args.snapshot.now.members in
    answered_parts ms c.args.capacity c.args.ending c.args.shorts c.args.ping c.in_ok-ids.ids c.in_ok-coefficient.coefficient c.in_ok-asks.asks c.as_slice-5.result.now c.in_ok-messages.messages c.in_ok-ids.ensures
    (c.in_ok-coefficient.ensures ∙ ap (coefficient_after ms) c.as_slice-2.ensures)
    (c.in_ok-asks.ensures ∙ ap (missing_short_ids ms) c.as_slice.ensures)
    (c.as_slice-5.ensures ∙ c.in_ok-announced.ensures ∙ ap (announcement ms) c.as_slice-4.ensures)
    c.in_ok-messages.ensures
