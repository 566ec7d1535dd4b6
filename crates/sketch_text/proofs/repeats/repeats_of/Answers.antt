use Rattle.std.proofs.Common.{ℕ, List, ◌+◌, sym, subst, rules}
use Rattle.sketch_text.proofs.Found.{Found, found_all, found_more, found_same}
use Rattle.sketch_text.proofs.repeats.repeats_of.Goals as goal
use Rattle.sketch_text.proofs.repeats.repeats_of.Goals.{then-sorted-i+in_ok-push, else-sorted-i}

pub loop-i-preserved : goal.loop-i-preserved
loop-i-preserved c =
    let sorted = c.args.sorted.now in
    let i = c.loop-i.i in
    let found = c.loop-i.repeats.items in
    elim c.if-sorted-i.branch [
      | then-sorted-i+in_ok-push w ↦
          subst (λ (xs : List ℕ). Found sorted (i + 1) xs) (sym (search rules)) (found_more sorted c.requires i found c.loop-i.invariant c.loop-i.auto.i c.loop-i-test.true w.if-sorted-i.true)
      | else-sorted-i w ↦
          subst (λ (xs : List ℕ). Found sorted (i + 1) xs) (sym (search rules)) (found_same sorted c.requires i found c.loop-i.invariant c.loop-i.auto.i c.loop-i-test.true w.if-sorted-i.false)
    ]

pub returns-clause-repeated : goal.returns-clause-repeated
returns-clause-repeated c = found_all c.args.sorted.now c.loop-i.i c.loop-i.repeats.items c.requires c.loop-i.invariant (search rules)
