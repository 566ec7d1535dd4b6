use Rattle.std.proofs.Common.{◌≡◌, Option, ap, sym, ◌∙◌, subst, refl}
use Rattle.std.specs.Prelude.{slice_get}
use Rattle.std.specs.Option.{option_map, IfSome}
use Rattle.std.proofs.lemmas.Iterator.Consumers.{nth_from_yields_List, YieldsList-from_first}
use Rattle.line_rules.specs.Lines.{NumberedLine, lines_of}
use Rattle.line_text.specs.Views.{line_of}
use Rattle.sketch_text.proofs.reading.line_number.Goals as goal

pub returns-in-Some : goal.returns-in-Some
returns-in-Some c =
    let text = c.args.text.now in
    let read : option_map line_of c.nth.result ≡ slice_get (lines_of text) c.args.index =
    nth_from_yields_List c.nth.result c.nth.new.self c.args.index c.nth.ensures.ran (YieldsList-from_first line_of (λ rest. rest) (lines_of text) c.of.ensures)
    in
    subst (λ (o : Option NumberedLine). IfSome o (λ l. c.in-Some.line.number ≡ l.number)) (sym (ap (option_map line_of) c.in-Some.is) ∙ read) refl

pub returns-in-None : goal.returns-in-None
returns-in-None c =
    let text = c.args.text.now in
    let read : option_map line_of c.nth.result ≡ slice_get (lines_of text) c.args.index =
    nth_from_yields_List c.nth.result c.nth.new.self c.args.index c.nth.ensures.ran (YieldsList-from_first line_of (λ rest. rest) (lines_of text) c.of.ensures)
    in
    subst (λ (o : Option NumberedLine). IfSome o (λ l. 0 ≡ l.number)) (sym (ap (option_map line_of) c.in-None.is) ∙ read) tt
