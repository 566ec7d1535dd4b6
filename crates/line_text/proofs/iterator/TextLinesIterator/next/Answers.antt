use Rattle.std.proofs.Common.{List, ℕ, length, sym, ap, ◌∙◌, arith, rules}
use Rattle.std.proofs.lemmas.List.{nil_from_length}
use Rattle.line_rules.specs.Lines.{lines, numbered_lines}
use Rattle.line_text.proofs.Numbering.{numbered_lines-full, numbered_lines-empty, numbered_lines-none}
use Rattle.line_text.proofs.iterator.TextLinesIterator.next.Goals as goal

pub returns-then-not-is_empty-clause-steps : goal.returns-then-not-is_empty-clause-steps
returns-then-not-is_empty-clause-steps c =
    sym c.loop-self.invariant.same ∙ ap (numbered_lines c.loop-self.self-inside.number) c.cut.ensures.first ∙ numbered_lines-full c.loop-self.self-inside.number c.cut.result.0.now (lines c.cut.result.1.now) (search rules)

pub loop-self-preserved : goal.loop-self-preserved
loop-self-preserved c =
    let empty = nil_from_length c.cut.result.0.now (search rules) in
    record {
      same = sym (ap (numbered_lines c.loop-self.self-inside.number) c.cut.ensures.first ∙ numbered_lines-empty c.loop-self.self-inside.number c.cut.result.0.now (lines c.cut.result.1.now) empty) ∙ c.loop-self.invariant.same;
      fits = omega (arith, c.cut.ensures.shorter);
    }

pub returns-clause-steps : goal.returns-clause-steps
returns-clause-steps c =
    let none = ap (λ (text : List ℕ). numbered_lines c.loop-self.self-inside.number (lines text)) (nil_from_length c.loop-self.self-inside.rest.now (search rules)) ∙ numbered_lines-none c.loop-self.self-inside.number in
    (sym c.loop-self.invariant.same ∙ none, none)

pub returns-then-not-is_empty-clause-goes : goal.returns-then-not-is_empty-clause-goes
returns-then-not-is_empty-clause-goes c =
    let shorter = ap length (returns-then-not-is_empty-clause-steps c) in
    search rules
