use Rattle.std.proofs.Common.{◌++◌, ◌∷◌, [], take, sym, ap, ◌∙◌, arith}
use Rattle.poly_laws.specs.Squares.{with_zeros}
use Rattle.poly_ops.proofs.Steps.{with_zeros-more, with_zeros-none}
use Rattle.poly_ops.proofs.remainder.with_zeros_between.Goals as goal

pub loop-a-init : goal.loop-a-init
loop-a-init g c = c.in_ok-spaced.ensures.items ∙ sym (with_zeros-none g.F.Field.ops.zero)

pub loop-a-preserved : goal.loop-a-preserved
loop-a-preserved g c =
    c.in_ok-push-2.ensures.items
    ∙ ap (λ z. z ++ c.ZERO.result ∷ []) (c.in_ok-push.ensures.items ∙ ap (λ z. z ++ c.a-item.result ∷ []) c.loop-a.invariant)
    ∙ ap (λ z. (with_zeros g.F.Field.ops.zero (take c.loop-a.a-index c.args.items.now) ++ c.a-item.result ∷ []) ++ z ∷ []) (c.ZERO.ensures ∙ sym g.met.F.Field.zero_is)
    ∙ with_zeros-more g.F.Field.ops.zero c.args.items.now c.loop-a.a-index c.a-item.result (omega arith) c.a-item.is
