use Rattle.std.proofs.Common.{◌≡◌, ◌<◌, length, get_or, ap, sym, subst, ◌∙◌, arith}
use Rattle.trace_sequences.specs.Woven.{AreWoven}
use Rattle.trace_sequences.proofs.HalfLists.{woven_none, woven_both, woven_all, woven_last}
use Rattle.trace_sequences.proofs.squares.woven.Goals as goal
use Rattle.trace_sequences.proofs.squares.woven.Goals.{then-second-first+in_ok-push-3, else-second-first}

pub loop-i-init : goal.loop-i-init
loop-i-init g c = woven_none g.F.Field.ops c.args.first.now c.args.second.now c.in_ok-both.both.items c.in_ok-both.ensures.items

pub loop-i-preserved : goal.loop-i-preserved
loop-i-preserved g c =
    woven_both g.F.Field.ops c.args.first.now c.args.second.now c.loop-i.both.items c.push.new.self.items c.push-in-loop-i.new.self.items c.loop-i.i c.index-first-i.result c.index-second-i.result
    (omega arith) (omega arith) c.index-first-i.is c.index-second-i.is c.loop-i.invariant c.in_ok-push.ensures.items c.in_ok-push-2.ensures.items

pub returns : goal.returns
returns g c = elim c.if-second-first.branch [
  | then-second-first+in_ok-push-3 w ↦
      subst (λ v. AreWoven g.F.Field.ops c.args.first.now c.args.second.now v.items) (sym w.both-is)
      (woven_last g.F.Field.ops c.args.first.now c.args.second.now c.loop-i.both.items w.push-then-second-first.new.self.items c.loop-i.i w.index-first-second.result
      (omega (arith, w.if-second-first.true)) (omega (arith, w.if-second-first.true)) (same w.if-second-first.true) (w.index-first-second.is ∙ ap (λ k. get_or c.args.first.now k w.index-first-second.result) (same w.if-second-first.true))
      c.loop-i.invariant w.in_ok-push-3.ensures.items)
  | else-second-first w ↦
      subst (λ v. AreWoven g.F.Field.ops c.args.first.now c.args.second.now v.items) (sym w.both-is)
      (woven_all g.F.Field.ops c.args.first.now c.args.second.now c.loop-i.both.items c.loop-i.i (omega (arith, w.if-second-first.false)) (omega arith) c.loop-i.invariant)
]
  where
    same : length c.args.second.now < length c.args.first.now → length c.args.second.now ≡ c.loop-i.i
    same fewer = omega arith
