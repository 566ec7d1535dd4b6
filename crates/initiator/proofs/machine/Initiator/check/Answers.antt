use Rattle.std.proofs.Common.{Bool, Some, None, if◌then◌else◌, refl, sym, ap, ◌∙◌}
use Rattle.wire_rules.specs.declared.name.Name.TheVariants as name
use Rattle.node_rules.specs.declared.end.End.TheVariants as end
use Rattle.initiator.proofs.Stages.{at_view, fault_at, fault_in, fault_elsewhere, other_length, wanted_length}
use Rattle.initiator.proofs.machine.Initiator.check.Goals as goal

pub returns-then-not-is_first_length-clause-err : goal.returns-then-not-is_first_length-clause-err
returns-then-not-is_first_length-clause-err g c =
    let m = c.args.self.now.machine in
    let at = at_view g.F.Field.bits_of c.self.inside.stage _ c.args.self.now c.self.view_is refl refl in (
      fault_at g.F.Field.bits_of m c.self.inside.stage at c.self.invariant.2 c.args.len
          ∙ ap (λ s. fault_in m s c.args.len) c.in-Waiting.is
          ∙ ap (λ (t : Bool). if t then None else Some (end.SketchLength c.args.len 0)) (sym c.is_first_length.ensures ∙ c.if-not-is_first_length.true),
      refl,
    )

pub returns-then-len-wanted-clause-err : goal.returns-then-len-wanted-clause-err
returns-then-len-wanted-clause-err g c =
    let m = c.args.self.now.machine in
    let at = at_view g.F.Field.bits_of c.self.inside.stage _ c.args.self.now c.self.view_is refl refl in (
      fault_at g.F.Field.bits_of m c.self.inside.stage at c.self.invariant.2 c.args.len
          ∙ ap (λ s. fault_in m s c.args.len) c.in-Extending.is
          ∙ other_length c.args.len _ c.capacity.result c.capacity.ensures.value c.if-len-wanted.true,
      refl,
    )

pub returns-in_default : goal.returns-in_default
returns-in_default g c =
    let m = c.args.self.now.machine in
    let at = at_view g.F.Field.bits_of c.self.inside.stage _ c.args.self.now c.self.view_is refl refl in
    record {
      ok = tt;
      err = (
        fault_at g.F.Field.bits_of m c.self.inside.stage at c.self.invariant.2 c.args.len
            ∙ fault_elsewhere m c.self.inside.stage c.args.len c.in_default.not-Waiting c.in_default.not-Extending
            ∙ ap (λ p. Some (end.Misplaced name.Sketch p)) (sym c.phase.ensures),
        refl,
      );
    }

pub returns-else-not-is_first_length-clause-ok : goal.returns-else-not-is_first_length-clause-ok
returns-else-not-is_first_length-clause-ok g c =
    let m = c.args.self.now.machine in
    let at = at_view g.F.Field.bits_of c.self.inside.stage _ c.args.self.now c.self.view_is refl refl in
    fault_at g.F.Field.bits_of m c.self.inside.stage at c.self.invariant.2 c.args.len
    ∙ ap (λ s. fault_in m s c.args.len) c.in-Waiting.is
    ∙ ap (λ (t : Bool). if t then None else Some (end.SketchLength c.args.len 0)) (sym c.is_first_length.ensures ∙ c.if-not-is_first_length.false)

pub returns-else-len-wanted-clause-ok : goal.returns-else-len-wanted-clause-ok
returns-else-len-wanted-clause-ok g c =
    let m = c.args.self.now.machine in
    let at = at_view g.F.Field.bits_of c.self.inside.stage _ c.args.self.now c.self.view_is refl refl in
    fault_at g.F.Field.bits_of m c.self.inside.stage at c.self.invariant.2 c.args.len
    ∙ ap (λ s. fault_in m s c.args.len) c.in-Extending.is
    ∙ wanted_length c.args.len _ c.capacity.result c.capacity.ensures.value c.if-len-wanted.false
