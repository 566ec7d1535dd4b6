use Rattle.std.proofs.Common.{◌≡◌, ◌⊎◌, inl, inr, ◌+◌, ◌-◌, ◌≤◌, length, refl, ap, ◌∙◌, arith}
use Rattle.std.proofs.lemmas.List.{length-reverse}
use Rattle.trace_sequences.proofs.Scattered.{scattered_none, scattered_more, scattered_all}
use Rattle.trace_sequences.proofs.halved.add_by_multiples.Goals as goal

pub loop-j-init : goal.loop-j-init
loop-j-init g c = λ items is. scattered_none g.F.Field.ops g.met.F.Field.ring items (length c.args.products.now) c.args.products.now c.requires.zeros

pub loop-j-preserved : goal.loop-j-preserved
loop-j-preserved g c items is =
    (let size : c.len-size.result ≡ length items = c.len-size.ensures ∙ ap length is ∙ length-reverse items in
    let ends : (c.lesser-end.result ≤ length c.args.products.now) × (c.lesser-end.result ≤ c.loop-j.j + 1) × ((length c.args.products.now ≤ c.lesser-end.result) ⊎ (c.loop-j.j + 1 ≤ c.lesser-end.result)) =
    (omega (arith, c.lesser-end.ensures.no_more.0, c.loop-j.auto.products), c.lesser-end.ensures.no_more.1, part c.lesser-end.ensures.one) in
    scattered_more g.F.Field.ops g.met.F.Field.ring items c.args.turned.now c.args.others.now c.loop-j.products c.add_multiple_of.new.acc _ (length c.args.products.now) c.loop-j.j c.saturating_sub-first.result c.lesser-end.result
    (c.lesser-end.result - c.saturating_sub-first.result) (c.len-size.result - 1 - (c.loop-j.j - c.saturating_sub-first.result)) c.index-others-j.result is
    (omega (arith, size, c.len-size.ensures, c.requires.fits)) (omega (arith, size, c.len-size.ensures, c.requires.some)) (omega (arith, size, c.loop-j-test.true, c.loop-j.auto.products, c.len-size.ensures, c.requires.some)) c.index-others-j.is
    (omega (arith, size, c.saturating_sub-first.ensures))
    (ends.0, ends.1, ends.2)
    (middle size ends) (omega (arith, size, c.saturating_sub-first.ensures))
    (c.loop-j.invariant items is) c.add_multiple_of.ensures refl)
  where
    middle : c.len-size.result ≡ length items → (c.lesser-end.result ≤ length c.args.products.now) × (c.lesser-end.result ≤ c.loop-j.j + 1) × ((length c.args.products.now ≤ c.lesser-end.result) ⊎ (c.loop-j.j + 1 ≤ c.lesser-end.result))
        → c.saturating_sub-first.result + (c.lesser-end.result - c.saturating_sub-first.result) ≡ c.lesser-end.result
    middle size (below, up_to, inl all) = omega (arith, all, size, c.saturating_sub-first.ensures, c.loop-j-test.true, c.loop-j.auto.products, c.len-size.ensures, c.requires.some)
    middle size (below, up_to, inr here) = omega (arith, here, size, c.saturating_sub-first.ensures, c.loop-j-test.true, c.loop-j.auto.products, c.len-size.ensures, c.requires.some)

    part : (length c.loop-j.products ≤ c.lesser-end.result) ⊎ (c.loop-j.j + 1 ≤ c.lesser-end.result) → (length c.args.products.now ≤ c.lesser-end.result) ⊎ (c.loop-j.j + 1 ≤ c.lesser-end.result)
    part (inl all) = inl (omega (arith, all, c.loop-j.auto.products))
    part (inr so_far) = inr so_far

pub returns : goal.returns
returns g c = λ items is.
    (let size : c.len-size.result ≡ length items = c.len-size.ensures ∙ ap length is ∙ length-reverse items in
    scattered_all g.F.Field.ops g.met.F.Field.ring items c.args.others.now c.loop-j.products (length c.args.products.now) c.loop-j.j
    (omega (arith, size, c.loop-j-test.false, c.len-size.ensures, c.requires.some)) (c.loop-j.invariant items is))
