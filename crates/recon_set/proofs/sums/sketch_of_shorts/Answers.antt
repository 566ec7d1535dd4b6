use Rattle.std.proofs.Common.{◌++◌, ◌∷◌, ◌<◌, ◌^◌, [], map, take, refl, sym, ap, subst, ◌∙◌}
use Rattle.std.proofs.lemmas.List.{take_more}
use Rattle.field_rules.specs.Numbered.{IsNumbered}
use Rattle.sketch_rules.specs.Sketches.{sketch_of}
use Rattle.id_rules.proofs.Lists.{all_weaker}
use Rattle.recon_set.proofs.Toggles.{appended}
use Rattle.recon_set.proofs.Starts.{zeros_are, all_take}
use Rattle.recon_set.proofs.sums.sketch_of_shorts.Goals as goal

pub loop-short-init : goal.loop-short-init
loop-short-init g c =
    ap (map g.F.Field.bits_of) c.in_ok-sketch.ensures.ok
    ∙ zeros_are g.F.Field.ops g.F.Field.bits_of g.F.Field.BITS g.met.F.Field.numbered c.requires.width c.args.capacity g.F.Field.ops.zero refl

pub loop-short-preserved : goal.loop-short-preserved
loop-short-preserved g c =
    let before = take c.loop-short.short-index c.args.shorts.now in
    ap (map g.F.Field.bits_of) c.toggle.ensures.sums
    ∙ appended g.F.Field.ops g.F.Field.bits_of 32 g.met.F.Field.ring (subst (IsNumbered g.F.Field.ops g.F.Field.bits_of) c.requires.width g.met.F.Field.numbered) c.from_bits.result before c.args.capacity c.loop-short.sketch
    (all_weaker (λ s. (0 < s) × (s < 2 ^ 32)) (λ s. s < 2 ^ 32) (λ s h. h.1) before (all_take (λ s. (0 < s) × (s < 2 ^ 32)) c.args.shorts.now c.loop-short.short-index c.requires.elements)) c.loop-short.invariant
    ∙ ap (λ ns. sketch_of ns c.args.capacity) (ap (λ z. before ++ z ∷ []) (c.from_bits.ensures ∙ c.from.ensures) ∙ sym (take_more c.args.shorts.now c.loop-short.short-index 0 c.loop-short-test.true))
