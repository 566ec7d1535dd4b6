use Rattle.std.proofs.Common.{refl, sym, ◌∙◌}
use Rattle.initiator.proofs.Moves.{remaining-taken}
use Rattle.initiator.proofs.Stages.{at_view, requested_at}
use Rattle.initiator.proofs.machine.Initiator.finish.Goals as goal

pub returns-clause-set : goal.returns-clause-set
returns-clause-set g c =
    λ n e.
    remaining-taken c.self.inside.stage n c.args.set.now c.empty_at_first.new.set c.self.invariant.2 c.empty_at_first.ensures.first c.empty_at_first.ensures.later
    (sym (requested_at g.F.Field.bits_of c.args.self.now.machine c.self.inside.stage (at_view g.F.Field.bits_of c.self.inside.stage _ c.args.self.now c.self.view_is refl refl) c.self.invariant.2) ∙ e)
