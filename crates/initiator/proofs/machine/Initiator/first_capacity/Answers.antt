use Rattle.std.proofs.Common.{length, refl, sym, ap, ◌∙◌, subst, arith, rules, ne_eqb}
use Rattle.node_rules.specs.State.{Round}
use Rattle.initiator.specs.Stages.{IsStage}
use Rattle.initiator.proofs.Stages.{at_view, first_len, fresh_round, extension_len, extending_round, pending_some, none_of_four}
use Rattle.initiator.proofs.machine.Initiator.first_capacity.Goals as goal

pub overflow_cast-result : goal.overflow_cast-result
overflow_cast-result g c =
    let first = first_len g.F.Field.bits_of c.args.self.now.machine c.self.inside.stage (at_view g.F.Field.bits_of c.self.inside.stage _ c.args.self.now c.self.view_is refl refl) c.self.invariant.2 (length c.args.skdata.now) c.requires c.in_default.not-Extending in
    let few = first.few in
    search (rules, few)

pub returns-in-Extending-clause-value : goal.returns-in-Extending-clause-value
returns-in-Extending-clause-value g c =
    λ set. sym (ap (λ (r : Round). r.capacity) (extending_round g.F.Field.bits_of c.args.self.now.machine c.self.inside.stage (at_view g.F.Field.bits_of c.self.inside.stage _ c.args.self.now c.self.view_is refl refl) c.self.invariant.2 (length c.args.skdata.now) c.requires c.in-Extending.round c.in-Extending.is set c.args.skdata.now))

pub returns-in-Extending-clause-none : goal.returns-in-Extending-clause-none
returns-in-Extending-clause-none g c =
    let p = c.in-Extending.round in
    let is = subst IsStage c.in-Extending.is c.self.invariant.2 in
    let some = pending_some p.capacity p.extensions (length p.sketch) is in
    let least = is.least in
    let long = extension_len g.F.Field.bits_of c.args.self.now.machine c.self.inside.stage (at_view g.F.Field.bits_of c.self.inside.stage _ c.args.self.now c.self.view_is refl refl) c.self.invariant.2 (length c.args.skdata.now) c.requires p c.in-Extending.is in
    ne_eqb p.capacity 0 (λ e. absurd (omega (arith, e, least))) ∙ sym (ne_eqb (length c.args.skdata.now) 0 (λ e. absurd (omega (arith, e, some, long))))

pub returns-in_default : goal.returns-in_default
returns-in_default g c =
    let first = first_len g.F.Field.bits_of c.args.self.now.machine c.self.inside.stage (at_view g.F.Field.bits_of c.self.inside.stage _ c.args.self.now c.self.view_is refl refl) c.self.invariant.2 (length c.args.skdata.now) c.requires c.in_default.not-Extending in
    record {
      value = λ set. sym (ap (λ (r : Round). r.capacity) (fresh_round g.F.Field.bits_of c.args.self.now.machine c.self.inside.stage (at_view g.F.Field.bits_of c.self.inside.stage _ c.args.self.now c.self.view_is refl refl) c.self.invariant.2 (length c.args.skdata.now) c.requires c.in_default.not-Extending set c.args.skdata.now));
      none = none_of_four (length c.args.skdata.now) first.whole;
    }
