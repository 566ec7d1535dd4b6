use Rattle.std.proofs.Common.{sym, ap, ◌∙◌}
use Rattle.line_text.specs.Cuts.{without_carriage_return}
use Rattle.line_text.proofs.Cutting.{without_carriage_return-cut, without_carriage_return-same}
use Rattle.line_text.proofs.cut.trimmed.Goals as goal

pub returns-then-last-eq13 : goal.returns-then-last-eq13
returns-then-last-eq13 c = sym (ap without_carriage_return c.in-Some.ensures.cases.0 ∙ without_carriage_return-cut c.in-Some.front.now c.in-Some.last.now c.if-last-eq13.true)

pub returns-else-last-eq13 : goal.returns-else-last-eq13
returns-else-last-eq13 c =
    let ends = c.in-Some.ensures.cases.0 in
    ends ∙ sym (ap without_carriage_return ends ∙ without_carriage_return-same c.in-Some.front.now c.in-Some.last.now c.if-last-eq13.false)
