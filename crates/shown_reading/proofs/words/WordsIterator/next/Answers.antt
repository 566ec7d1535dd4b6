use Rattle.std.proofs.Common.{◌∙◌, ◌+◌, sym, ap, length, rules, arith, add-one, Bor, List, ℕ, Option}
use Rattle.std.specs.Option.{option_copied}
use Rattle.std.proofs.lemmas.List.{take_rest}
use Rattle.shown_reading.proofs.Cutting.{fields_cut, fields_whole}
use Rattle.shown_reading.specs.Words.{words_left}
use Rattle.shown_reading.proofs.words.WordsIterator.next.Goals as goal

pub returns-in-Some-clause-steps : goal.returns-in-Some-clause-steps
returns-in-Some-clause-steps c =
    let text = c.in_ok-rest.rest.now in
    let end = c.in-Some.end in
    let found = c.in-Some.ensures in
    rw (take_rest text (end + 1), add-one) (sym c.self.view_is ∙ ap (λ (r : Option (Bor (List ℕ))). words_left (option_copied r)) c.in_ok-rest.was ∙ fields_cut text end found.0.high (λ j before is. found.0.before j (omega arith) before is) found.1)

pub returns-in-Some-clause-goes : goal.returns-in-Some-clause-goes
returns-in-Some-clause-goes c =
    let shorter = ap length (returns-in-Some-clause-steps c) in
    search rules

pub returns-in-None-clause-steps : goal.returns-in-None-clause-steps
returns-in-None-clause-steps c = sym c.self.view_is ∙ ap (λ (r : Option (Bor (List ℕ))). words_left (option_copied r)) c.in_ok-rest.was ∙ fields_whole c.in_ok-rest.rest.now (λ j within is. c.in-None.ensures j (omega arith) within is)

pub returns-in-None-clause-goes : goal.returns-in-None-clause-goes
returns-in-None-clause-goes c =
    let shorter = ap length (returns-in-None-clause-steps c) in
    search rules
