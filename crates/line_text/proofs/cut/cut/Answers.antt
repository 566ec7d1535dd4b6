use Rattle.std.proofs.Common.{◌+◌, arith, add-one}
use Rattle.std.proofs.lemmas.Bool.{eqb-true, eq-eqb}
use Rattle.std.proofs.lemmas.List.{take_rest}
use Rattle.line_text.proofs.Cutting.{lines_cut, lines_whole}
use Rattle.line_text.proofs.cut.cut.Goals as goal

pub returns-in-Some-clause-first : goal.returns-in-Some-clause-first
returns-in-Some-clause-first c =
    let text = c.args.text.now in
    let end = c.in-Some.end in
    let found = c.in-Some.ensures in
    let first = lines_cut text end found.0.high (λ j before is. found.0.before j (omega arith) before (eq-eqb _ 10 is)) (eqb-true _ 10 found.1) in
    rw (c.trimmed.ensures, take_rest text (end + 1), add-one) first

pub returns-in-None-clause-first : goal.returns-in-None-clause-first
returns-in-None-clause-first c = lines_whole c.args.text.now c.requires (λ j within is. c.in-None.ensures j (omega arith) within (eq-eqb _ 10 is))
