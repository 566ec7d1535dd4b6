use Rattle.std.proofs.Common.{◌≡◌, ◌-◌, ◌+◌, length, take, drop, sym, ap, subst, ◌∙◌, arith, length-drop}
use Rattle.std.proofs.lemmas.List.{take_all}
use Rattle.field_rules.specs.Fields.{dot_of}
use Rattle.poly_rules.specs.Polynomials.{degree}
use Rattle.poly_rules.specs.Recurrences.{IsExtension}
use Rattle.poly_ops.proofs.Extending.{extended}
use Rattle.poly_ops.proofs.recurrence.extend_recurrence.Goals as goal

pub loop-i-preserved : goal.loop-i-preserved
loop-i-preserved g c =
    let from : take (length c.loop-i.values.items - (c.loop-i.i - degree c.args.f.now)) (drop (c.loop-i.i - degree c.args.f.now) c.loop-i.values.items) ≡ drop (c.loop-i.i - degree c.args.f.now) c.loop-i.values.items =
    take_all (length c.loop-i.values.items - (c.loop-i.i - degree c.args.f.now)) (drop (c.loop-i.i - degree c.args.f.now) c.loop-i.values.items)
    (omega (arith, length-drop (c.loop-i.i - degree c.args.f.now) c.loop-i.values.items)) in
    subst (IsExtension g.F.Field.ops c.args.f.now c.args.sums.now (c.loop-i.i + 1)) (sym c.in_ok-push.ensures.items)
    (extended g.F.Field.ops c.args.f.now c.args.sums.now c.loop-i.values.items c.loop-i.i c.dot-next.result (omega arith) c.requires.enough c.loop-i.invariant
    (c.dot-next.ensures ∙ rw (c.coeffs.ensures.value, c.coeffs-2.ensures.value, c.deref.ensures.value) (ap (dot_of g.F.Field.ops (take (degree c.args.f.now) c.args.f.now)) from)))
