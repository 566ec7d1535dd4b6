use Rattle.std.proofs.Common.{refl, sym, ◌∙◌}
use Rattle.initiator.proofs.Moves.{extensions-pending, extensions-fresh}
use Rattle.initiator.proofs.Stages.{at_view, requested_at}
use Rattle.initiator.proofs.machine.Initiator.extensions.Goals as goal

pub returns-in-Extending : goal.returns-in-Extending
returns-in-Extending g c =
    λ n e.
    extensions-pending c.self.inside.stage c.in-Extending.round n c.in-Extending.is
    (sym (requested_at g.F.Field.bits_of c.args.self.now.machine c.self.inside.stage (at_view g.F.Field.bits_of c.self.inside.stage _ c.args.self.now c.self.view_is refl refl) c.self.invariant.2) ∙ e)

pub returns-in_default : goal.returns-in_default
returns-in_default g c =
    λ n e.
    extensions-fresh c.self.inside.stage n c.in_default.not-Extending
    (sym (requested_at g.F.Field.bits_of c.args.self.now.machine c.self.inside.stage (at_view g.F.Field.bits_of c.self.inside.stage _ c.args.self.now c.self.view_is refl refl) c.self.invariant.2) ∙ e)
