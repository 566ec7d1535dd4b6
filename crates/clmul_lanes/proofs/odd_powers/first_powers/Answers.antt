use Rattle.std.proofs.Common.{◌≡◌, ◌≢◌, ◌<◌, length, refl, sym, ap, subst, ◌∙◌, arith, below_more, get_or-set_other, get_or-set_same, length-set}
use Rattle.field_rules.specs.Elements.{product}
use Rattle.field_core.proofs.OddPowers.{power_one, odd_power_next}
use Rattle.clmul_lanes.specs.Lane32.{ops, ring, bits_of}
use Rattle.clmul_lanes.proofs.Blocks.{times_of_bits}
use Rattle.clmul_lanes.proofs.OddBlocks.{powers_are}
use Rattle.clmul_lanes.proofs.odd_powers.first_powers.Goals as goal

pub loop-j-init : goal.loop-j-init
loop-j-init c = record { long = refl; power_is = sym (power_one ops ring c.args.e); done = λ k lt. absurd (omega arith) }

pub loop-j-preserved : goal.loop-j-preserved
loop-j-preserved c =
    let inside : c.loop-j.j < length c.loop-j.words = omega (arith, c.loop-j.invariant.long) in
    let power_next : c.new-power.result ≡ ops.times c.loop-j.power c.square.result =
    times_of_bits c.loop-j.power c.square.result c.new-power.result
    (c.new-power.ensures ∙ c.times.ensures ∙ ap (λ k. product 32 k c.get-in-loop-j-2.result) (c.of-square.ensures ∙ c.get.ensures) ∙ ap (product 32 (bits_of c.square.result)) c.get-in-loop-j-2.ensures) in
    record {
      long = length-set c.loop-j.words c.loop-j.j c.get-in-loop-j.result ∙ c.loop-j.invariant.long;
      power_is = power_next ∙ odd_power_next ops ring c.args.e c.loop-j.power c.square.result c.loop-j.j c.loop-j.invariant.power_is c.square.ensures;
      done = below_more _ _
          (λ k lt. let other : k ≢ c.loop-j.j = omega arith in get_or-set_other c.loop-j.words c.loop-j.j k c.get-in-loop-j.result 0 other ∙ c.loop-j.invariant.done k lt)
          (get_or-set_same c.loop-j.words c.loop-j.j c.get-in-loop-j.result 0 inside ∙ c.get-in-loop-j.ensures ∙ ap bits_of c.loop-j.invariant.power_is);
    }

pub returns : goal.returns
returns c = let end : c.loop-j.j ≡ 16 = omega arith in
    powers_are c.args.e c.loop-j.words c.loop-j.invariant.long (λ k lt. c.loop-j.invariant.done k (subst (λ n. k < n) (sym end) lt))
