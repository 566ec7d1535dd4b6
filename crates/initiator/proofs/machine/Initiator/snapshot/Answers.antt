use Rattle.std.proofs.Common.{length, refl, sym, ap, ◌∙◌}
use Rattle.node_rules.specs.State.{Round}
use Rattle.initiator.proofs.Stages.{at_view, fresh_round, extending_round}
use Rattle.initiator.proofs.machine.Initiator.snapshot.Goals as goal

pub returns-in-Extending : goal.returns-in-Extending
returns-in-Extending g c =
    λ bytes none. sym (ap (λ (r : Round). r.snapshot) (extending_round g.F.Field.bits_of c.args.self.now.machine c.self.inside.stage (at_view g.F.Field.bits_of c.self.inside.stage _ c.args.self.now c.self.view_is refl refl) c.self.invariant.2 (length bytes) none c.in-Extending.round c.in-Extending.is c.args.set.now bytes))

pub returns-in_default : goal.returns-in_default
returns-in_default g c =
    λ bytes none. c.as_snapshot.ensures ∙ sym (ap (λ (r : Round). r.snapshot) (fresh_round g.F.Field.bits_of c.args.self.now.machine c.self.inside.stage (at_view g.F.Field.bits_of c.self.inside.stage _ c.args.self.now c.self.view_is refl refl) c.self.invariant.2 (length bytes) none c.in_default.not-Extending c.args.set.now bytes))
