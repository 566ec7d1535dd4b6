use Rattle.std.proofs.Common.{◌≢◌, ◌<◌, length, refl, ap, ◌∙◌, arith, below_more, get_or-set_other, get_or-set_same, length-set}
use Rattle.std.proofs.lemmas.List.{get_or_default}
use Rattle.clmul_lanes.specs.Lane32.{bits_of, zero_of}
use Rattle.clmul_lanes.proofs.axpy.bits_in.Goals as goal

pub loop-i-init : goal.loop-i-init
loop-i-init c = record { long = refl; done = λ j lt. absurd (omega arith) }

pub loop-i-preserved : goal.loop-i-preserved
loop-i-preserved c =
    let inside : c.loop-i.i < length c.args.x.now = omega arith in
    let long : c.loop-i.i < length c.loop-i.words = omega (arith, c.loop-i.invariant.long, c.requires) in
    record {
      long = length-set c.loop-i.words c.loop-i.i c.get.result ∙ c.loop-i.invariant.long;
      done = below_more _ _
          (λ j lt. let other : j ≢ c.loop-i.i = omega arith in get_or-set_other c.loop-i.words c.loop-i.i j c.get.result 0 other ∙ c.loop-i.invariant.done j lt)
          (get_or-set_same c.loop-i.words c.loop-i.i c.get.result 0 long
          ∙ c.get.ensures
          ∙ ap bits_of (c.index-x-i.is ∙ get_or_default c.args.x.now c.loop-i.i c.index-x-i.result zero_of inside));
    }
