use Rattle.std.proofs.Common.{◌≡◌, ◌↔◌, sym, ap, ◌∙◌, arith}
use Rattle.std.specs.Prelude.{IsTrue}
use Rattle.field_rules.specs.Fields.{trace_of}
use Rattle.field_laws.proofs.Numbers.{equal_bits}
use Rattle.field_laws.proofs.Conjugates.{conjugate-none, conjugate-more}
use Rattle.field_laws.proofs.Traces.{trace_of-none, trace_of-more}
use Rattle.field_core.proofs.field.Field.trace.Goals as goal

pub loop-init : goal.loop-init
loop-init g c = record {
  power_is = sym (conjugate-none g.Self.Field.ops c.args.self);
  sum_is = c.ZERO-sum.ensures ∙ sym g.met.Self.Field.zero_is ∙ sym (trace_of-none g.Self.Field.ops g.met.Self.Field.ring c.args.self);
}

pub loop-preserved : goal.loop-preserved
loop-preserved g c = record {
  power_is = c.square-power.ensures ∙ conjugate-more g.Self.Field.ops c.loop.counter c.args.self c.loop.power c.loop.invariant.power_is;
  sum_is = c.add-sum.ensures.sum ∙ trace_of-more g.Self.Field.ops g.met.Self.Field.ring c.loop.counter c.args.self c.loop.sum c.loop.power c.loop.invariant.sum_is c.loop.invariant.power_is;
}

pub returns : goal.returns
returns g c =
    let past : c.loop.counter ≡ g.Self.Field.BITS = omega (arith, c.BITS-end.ensures) in
    let whole : c.loop.sum ≡ trace_of g.Self.Field.ops g.Self.Field.BITS c.args.self = c.loop.invariant.sum_is ∙ ap (λ n. trace_of g.Self.Field.ops n c.args.self) past in
    let one : c.ONE.result ≡ g.Self.Field.ops.one = c.ONE.ensures ∙ sym g.met.Self.Field.one_is in
    let tested : IsTrue c.eq.result ↔ (c.loop.sum ≡ c.ONE.result) = equal_bits g.Self.Field.ops g.Self.Field.bits_of g.Self.Field.BITS g.met.Self.Field.numbered c.eq.result c.loop.sum c.ONE.result (c.eq.ensures ∙ g.met.Self.Field.equal c.loop.sum c.ONE.result) in
    (λ yes. sym whole ∙ tested.0 yes ∙ one, λ is. tested.1 (whole ∙ is ∙ sym one))
