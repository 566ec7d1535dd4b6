use Rattle.std.proofs.Common.{◌≡◌, ◌+◌, ◌-◌, ◌*◌, length, get_or, ap, ◌∙◌, arith}
use Rattle.trace_sequences.proofs.HalfLists.{next_even, next_odd, all_even, all_odd}
use Rattle.trace_sequences.proofs.squares.halves_of.Goals as goal
use Rattle.trace_sequences.proofs.squares.halves_of.Goals.{then-f-eq1+in_ok-push-3, else-f-eq1}

pub loop-i-preserved : goal.loop-i-preserved
loop-i-preserved g c = record {
  even = next_even c.args.f.now c.loop-i.even.items c.push.new.self.items c.loop-i.i c.index-f-i.result (omega arith) c.index-f-i.is c.loop-i.invariant.even c.in_ok-push.ensures.items;
  odd = next_odd c.args.f.now c.loop-i.odd.items c.push-in-loop-i.new.self.items c.loop-i.i c.index-f-i-in-loop-i.result (omega arith) c.index-f-i-in-loop-i.is c.loop-i.invariant.odd c.in_ok-push-2.ensures.items;
}

pub returns-clause-even : goal.returns-clause-even
returns-clause-even g c = elim c.if-f-eq1.branch [
  | then-f-eq1+in_ok-push-3 w ↦
      ap (λ v. v.items) w.even-is
      ∙ all_even c.args.f.now w.push-then-f-eq1.new.self.items (c.loop-i.i + 1) (omega (arith, w.if-f-eq1.true))
      (next_even c.args.f.now c.loop-i.even.items w.push-then-f-eq1.new.self.items c.loop-i.i w.index-f-f.result (omega (arith, w.if-f-eq1.true))
      (w.index-f-f.is ∙ (let last : length c.args.f.now - 1 ≡ 2 * c.loop-i.i = omega (arith, w.if-f-eq1.true, c.loop-i.auto.i-end) in ap (λ k. get_or c.args.f.now k w.index-f-f.result) last))
      c.loop-i.invariant.even w.in_ok-push-3.ensures.items)
  | else-f-eq1 w ↦ ap (λ v. v.items) w.even-is ∙ all_even c.args.f.now c.loop-i.even.items c.loop-i.i (omega (arith, w.if-f-eq1.false)) c.loop-i.invariant.even
]

pub returns-clause-odd : goal.returns-clause-odd
returns-clause-odd g c = all_odd c.args.f.now c.loop-i.odd.items c.loop-i.i (omega arith) c.loop-i.invariant.odd
