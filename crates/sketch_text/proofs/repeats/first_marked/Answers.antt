use Rattle.std.proofs.Common.{◌+◌, List, Bool, sym, subst, rules}
use Rattle.sketch_text.proofs.Marks.{Marks, marks_more, marks_end, marks_pass}
use Rattle.sketch_text.proofs.repeats.first_marked.Goals as goal
use Rattle.sketch_text.proofs.repeats.first_marked.Goals.{in-Some+else-index, in_default}

pub loop-i-preserved : goal.loop-i-preserved
loop-i-preserved c =
    let numbers = c.args.numbers.now in
    let repeats = c.args.repeats.now in
    let i = c.loop-i.i in
    let marks = c.loop-i.marked.items in
    elim c.match-index_of.branch [
      | in-Some+else-index w ↦
          subst (λ (bs : List Bool). Marks numbers repeats (i + 1) bs) (sym (search rules)) (marks_more numbers repeats i w.in-Some.index marks c.loop-i.invariant c.loop-i-test.true w.in-Some.ensures (search rules))
      | in_default w ↦
          subst (λ (bs : List Bool). Marks numbers repeats (i + 1) bs) (sym (search rules)) (marks_pass numbers repeats i marks c.loop-i.invariant c.loop-i-test.true c.requires.repeated w.in_default.ensures)
    ]

pub returns : goal.returns
returns c = marks_end c.args.numbers.now c.args.repeats.now c.loop-i.i c.loop-i.marked.items c.loop-i.invariant (search rules)
