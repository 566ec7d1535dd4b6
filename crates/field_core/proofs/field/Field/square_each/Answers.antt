use Rattle.std.proofs.Common.{◌<◌, length, ◌∙◌, ap, arith, set, sym}
use Rattle.std.proofs.lemmas.List.Edits.{map_over_more}
use Rattle.field_core.proofs.field.Field.square_each.Goals as goal

pub loop-a-preserved : goal.loop-a-preserved
loop-a-preserved g c =
    let inside : c.loop-a.a-index < length c.args.x.now = omega arith in
    ap (set c.loop-a.x c.loop-a.a-index) c.square.ensures ∙ ap (λ z. set c.loop-a.x c.loop-a.a-index (g.Self.Field.ops.times z z)) (sym c.a-item.is)
    ∙ map_over_more (λ a. g.Self.Field.ops.times a a) c.args.x.now c.loop-a.x c.loop-a.a-index c.a-item.result inside c.loop-a.invariant c.a-item.is
