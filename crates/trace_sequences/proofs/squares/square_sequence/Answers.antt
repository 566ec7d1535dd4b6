use Rattle.std.proofs.Common.{◌≡◌, ◌-◌, ◌/◌, length, sym, ap, subst, arith}
use Rattle.std.proofs.lemmas.List.{length-map}
use Rattle.std.proofs.lemmas.Result.{IfOk-weaker}
use Rattle.splitting_laws.specs.Parts.{IsCorrelation}
use Rattle.sequence_laws.specs.Sequences.{IsSquareSequence}
use Rattle.trace_sequences.specs.Woven.{AreWoven}
use Rattle.trace_sequences.proofs.HalfLists.{square_of_woven}
use Rattle.trace_sequences.proofs.squares.square_sequence.Goals as goal

pub correlation-requires : goal.correlation-requires
correlation-requires g c = omega (arith, ap length c.as_slice.ensures.value, ap length c.in_ok-squares.ensures, length-map c.args.s.now (λ a. g.F.Field.ops.times a a))

pub correlation-requires-2 : goal.correlation-requires-2
correlation-requires-2 g c = omega (arith, ap length c.as_slice-2.ensures.value, ap length c.in_ok-squares.ensures, length-map c.args.s.now (λ a. g.F.Field.ops.times a a))

pub woven-requires : goal.woven-requires
woven-requires g c = record {
  fewer = omega (arith, ap length c.as_slice-3.ensures.value, ap length c.as_slice-4.ensures.value, c.in_ok-at_even.ensures.size, c.in_ok-at_odd.ensures.size);
  by_one = omega (arith, ap length c.as_slice-3.ensures.value, ap length c.as_slice-4.ensures.value, c.in_ok-at_even.ensures.size, c.in_ok-at_odd.ensures.size);
}

pub returns-clause-size : goal.returns-clause-size
returns-clause-size g c =
    IfOk-weaker c.woven.result (λ t. AreWoven g.F.Field.ops c.as_slice-3.result.now c.as_slice-4.result.now t.items) (λ t. length t.items ≡ length c.args.s.now)
    (λ t both. omega (arith, both.size, ap length c.as_slice-3.ensures.value, ap length c.as_slice-4.ensures.value, c.in_ok-at_even.ensures.size, c.in_ok-at_odd.ensures.size))
    c.woven.ensures

pub returns-clause-square : goal.returns-clause-square
returns-clause-square g c = λ f even odd.
    IfOk-weaker c.woven.result (λ t. AreWoven g.F.Field.ops c.as_slice-3.result.now c.as_slice-4.result.now t.items) (λ t. IsSquareSequence g.F.Field.ops f c.args.s.now t.items)
    (λ t both.
    square_of_woven g.F.Field.ops f c.args.s.now c.in_ok-squares.squares.items c.as_slice-3.result.now c.as_slice-4.result.now t.items c.in_ok-squares.ensures
    (subst (λ o. IsCorrelation g.F.Field.ops o c.in_ok-squares.squares.items (length c.args.s.now - length c.args.s.now / 2) c.as_slice-3.result.now) odd
    (subst (IsCorrelation g.F.Field.ops c.args.odd.now c.in_ok-squares.squares.items (length c.args.s.now - length c.args.s.now / 2)) (sym c.as_slice-3.ensures.value)
    (subst (λ s. IsCorrelation g.F.Field.ops c.args.odd.now s (length c.args.s.now - length c.args.s.now / 2) c.in_ok-at_even.at_even.items) c.as_slice.ensures.value c.in_ok-at_even.ensures)))
    (subst (λ e. IsCorrelation g.F.Field.ops e c.in_ok-squares.squares.items (length c.args.s.now / 2) c.as_slice-4.result.now) even
    (subst (IsCorrelation g.F.Field.ops c.args.even.now c.in_ok-squares.squares.items (length c.args.s.now / 2)) (sym c.as_slice-4.ensures.value)
    (subst (λ s. IsCorrelation g.F.Field.ops c.args.even.now s (length c.args.s.now / 2) c.in_ok-at_odd.at_odd.items) c.as_slice-2.ensures.value c.in_ok-at_odd.ensures)))
    both)
    c.woven.ensures
