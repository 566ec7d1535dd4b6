use Rattle.std.proofs.Common.{◌≢◌, ◌∙◌, sym, [], ◌∷◌, get_or, arith}
use Rattle.std.proofs.lemmas.Bool.{false≢true}
use Rattle.std.proofs.lemmas.Slice.Eq.{bytes_eq-Decides}
use Rattle.std.proofs.lemmas.Str.Pattern.{starts_char}
use Rattle.command_words.proofs.Numbers.{decimal_zero, decimal_start, parsed_decimal}
use Rattle.command_words.proofs.number.decimal_of.Goals.{then-starts_with-via-then-starts_with, then-starts_with-via-else-starts_with+then-starts_with-2}
use Rattle.command_words.proofs.number.decimal_of.Goals as goal

pub returns-then-eq : goal.returns-then-eq
returns-then-eq c = (bytes_eq-Decides c.args.text.now (48 ∷ [])).0 (sym c.eq.ensures ∙ c.if-eq.true) ∙ sym decimal_zero

pub returns-then-starts_with : goal.returns-then-starts_with
returns-then-starts_with c n small spelled =
    let other : c.args.text.now ≢ 48 ∷ [] = λ same. false≢true (sym c.if-eq.false ∙ c.eq.ensures ∙ (bytes_eq-Decides c.args.text.now (48 ∷ [])).1 same) in
    let start = decimal_start c.args.text.now n small spelled other in
    elim c.then-starts_with.branch [
      | then-starts_with-via-then-starts_with w ↦
          let zero = (starts_char 48 c.args.text.now _ c.starts_with.ensures.cases (omega arith) (omega arith)).0 w.if-starts_with.true in
          omega (arith, start, zero)
      | then-starts_with-via-else-starts_with+then-starts_with-2 w ↦
          let plus = (starts_char 43 c.args.text.now _ w.starts_with-else-starts_with.ensures.cases (omega arith) (omega arith)).0 w.if-starts_with-2.true in
          omega (arith, start, plus)
    ]

pub returns : goal.returns
returns c =
    let zero : get_or c.args.text.now 0 0 ≢ 48 = λ same. false≢true (sym c.if-starts_with.false ∙ (starts_char 48 c.args.text.now _ c.starts_with.ensures.cases (omega arith) (omega arith)).1 same) in
    let plus : get_or c.args.text.now 0 0 ≢ 43 = λ same. false≢true (sym c.if-starts_with-2.false ∙ (starts_char 43 c.args.text.now _ c.starts_with-else-starts_with.ensures.cases (omega arith) (omega arith)).1 same) in
    rw c.ok.ensures.value (parsed_decimal c.args.text.now c.parse.result c.parse.ensures.value.0 plus zero)
