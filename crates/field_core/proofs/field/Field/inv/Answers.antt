use Rattle.std.proofs.Common.{◌≡◌, ◌+◌, ◌-◌, ◌≤◌, sym, ap, ◌∙◌, arith}
use Rattle.field_rules.specs.Fields.{conjugate}
use Rattle.field_laws.proofs.Numbers.{width_positive}
use Rattle.field_laws.proofs.Conjugates.{conjugate-none, conjugate-more}
use Rattle.field_laws.proofs.Inverses.{norm_of, norm_of-none, norm_of-more}
use Rattle.field_laws.proofs.Fields.{inverse_by_norm}
use Rattle.field_core.proofs.field.Field.inv.Goals as goal

pub loop-init : goal.loop-init
loop-init g c = record {
  begun = omega arith;
  within = width_positive g.Self.Field.ops g.Self.Field.bits_of g.Self.Field.BITS g.met.Self.Field.numbered;
  power_is = sym (conjugate-none g.Self.Field.ops c.args.self);
  product_is = c.ONE-product.ensures ∙ sym g.met.Self.Field.one_is ∙ sym (norm_of-none g.Self.Field.ops g.met.Self.Field.ring (g.Self.Field.ops.times c.args.self c.args.self));
}

pub loop-preserved : goal.loop-preserved
loop-preserved g c =
    let begun : 1 ≤ c.loop.counter = c.loop.invariant.begun in
    let next : c.loop.counter - 1 + 1 ≡ c.loop.counter + 1 - 1 = omega arith in
    let power : c.square-power.result ≡ conjugate g.Self.Field.ops (c.loop.counter - 1 + 1) c.args.self = c.square-power.ensures ∙ conjugate-more g.Self.Field.ops (c.loop.counter - 1) c.args.self c.loop.power c.loop.invariant.power_is in
    record {
      begun = omega arith;
      within = omega (arith, c.BITS-end.ensures);
      power_is = power ∙ ap (λ n. conjugate g.Self.Field.ops n c.args.self) next;
      product_is =
          c.mul-product.ensures.times
          ∙ norm_of-more g.Self.Field.ops g.met.Self.Field.ring (c.loop.counter - 1) c.args.self c.loop.product c.square-power.result c.loop.invariant.product_is power
          ∙ ap (λ n. norm_of g.Self.Field.ops n (g.Self.Field.ops.times c.args.self c.args.self)) next;
    }

pub returns : goal.returns
returns g c =
    let begun : 1 ≤ c.loop.counter = c.loop.invariant.begun in
    let past : c.loop.counter ≡ g.Self.Field.BITS = omega (arith, c.BITS-end.ensures, c.loop.invariant.within) in
    let whole : c.loop.product ≡ norm_of g.Self.Field.ops (g.Self.Field.BITS - 1) (g.Self.Field.ops.times c.args.self c.args.self) = c.loop.invariant.product_is ∙ ap (λ n. norm_of g.Self.Field.ops (n - 1) (g.Self.Field.ops.times c.args.self c.args.self)) past in
    ap (g.Self.Field.ops.times c.args.self) whole
    ∙ inverse_by_norm g.Self.Field.ops g.Self.Field.bits_of g.Self.Field.BITS g.met.Self.Field.ring g.met.Self.Field.numbered g.met.Self.Field.field c.args.self c.requires
