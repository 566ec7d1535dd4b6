use Rattle.std.proofs.Common.{◌≡◌, ◌+◌, ◌-◌, ◌*◌, ◌/◌, ◌++◌, length, take, drop, refl, sym, subst, ap, ◌∙◌, arith}
use borrow.Rule.Slice.PartMut.{put_mid}
use Rattle.field_rules.specs.Ops.{power, with_odd_powers}
use Rattle.clmul_lanes.specs.Lane32.{ops, bits_of}
use Rattle.clmul_lanes.specs.Planes.{ArePlanes}
use Rattle.clmul_lanes.specs.Tables.{AreByteTables}
use Rattle.clmul_lanes.specs.OddPowers.{bits_of_odd_powers}
use Rattle.clmul_lanes.proofs.OddBlocks.{block_added, rest_added, powers_fit, powers_next, up_is}
use Rattle.clmul_lanes.proofs.odd_powers.add_by_lanes.Goals as goal

pub loop-n-init : goal.loop-n-init
loop-n-init c = record { powers = subst (λ z. ArePlanes z c.planes_of-planes.result) c.first_powers.ensures c.planes_of-planes.ensures; rest = refl }

pub loop-n-preserved : goal.loop-n-preserved
loop-n-preserved c =
    let next : 16 * (c.loop-n.n + 1) ≡ 16 * c.loop-n.n + (16 * c.loop-n.n + 16 - 16 * c.loop-n.n) = omega arith in
    let step : 16 * c.loop-n.n + 16 ≡ 16 * (c.loop-n.n + 1) = omega arith in
    let e = c.args.e in
    let up : c.power_8-up.result ≡ power ops e 32 = up_is e c.power_2.result c.power_2-2.result c.power_8-up.result c.power_2.ensures c.power_2-2.ensures c.power_8-up.ensures in
    let words : c.words_of.result ≡ bits_of_odd_powers e (16 * c.loop-n.n) = c.words_of.ensures (bits_of_odd_powers e (16 * c.loop-n.n)) refl (powers_fit e (16 * c.loop-n.n)) c.loop-n.invariant.powers in
    record {
      powers = subst (λ z. ArePlanes z c.planes_of_products-next.result) (powers_next e c.power_8-up.result (16 * c.loop-n.n) up ∙ ap (bits_of_odd_powers e) step)
          (c.planes_of_products-next.ensures (bits_of c.power_8-up.result) (bits_of_odd_powers e (16 * c.loop-n.n)) c.power_8-up.result.small (subst (λ z. AreByteTables z c.byte_tables-tables.result) c.get.ensures c.byte_tables-tables.ensures) (powers_fit e (16 * c.loop-n.n)) c.loop-n.invariant.powers);
      rest =
          ap (λ m. take m (put_mid (16 * c.loop-n.n) (16 * c.loop-n.n + 16 - 16 * c.loop-n.n) c.loop-n.acc c.add_words.new.acc) ++ with_odd_powers ops e m (drop m (put_mid (16 * c.loop-n.n) (16 * c.loop-n.n + 16 - 16 * c.loop-n.n) c.loop-n.acc c.add_words.new.acc))) next
          ∙ block_added e (16 * c.loop-n.n) (16 * c.loop-n.n + 16 - 16 * c.loop-n.n) c.loop-n.acc c.add_words.new.acc (omega arith) (c.add_words.ensures e (16 * c.loop-n.n) words)
          ∙ c.loop-n.invariant.rest;
    }

pub returns : goal.returns
returns c =
    let past : length c.args.acc.now / 16 ≡ c.loop-n.n = omega arith in
    let e = c.args.e in
    let words : c.words_of-2.result ≡ bits_of_odd_powers e (16 * c.loop-n.n) = c.words_of-2.ensures (bits_of_odd_powers e (16 * c.loop-n.n)) refl (powers_fit e (16 * c.loop-n.n)) c.loop-n.invariant.powers in
    rest_added e _ _ c.loop-n.acc c.add_words-2.new.acc (omega arith) (c.add_words-2.ensures e _ (words ∙ ap (λ n. bits_of_odd_powers e (16 * n)) (sym past)))
    ∙ ap (λ n. take (16 * n) c.loop-n.acc ++ with_odd_powers ops e (16 * n) (drop (16 * n) c.loop-n.acc)) past
    ∙ c.loop-n.invariant.rest
