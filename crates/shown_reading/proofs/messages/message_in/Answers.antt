use Rattle.std.proofs.Common.{◌≡◌, ◌∙◌, ap, codes, bytes_eq, List, ℕ, sym}
use Rattle.std.proofs.lemmas.Bool.{false≢true}
use Rattle.std.proofs.lemmas.Slice.Eq.{bytes_eq-Decides}
use Rattle.wire_rules.specs.Commands.{name_of_word}
use Rattle.shown_reading.specs.Reads.{is_typed}
use Rattle.shown_reading.specs.Words.{first_word}
use Rattle.shown_reading.proofs.OneWord.{eased}
use Rattle.shown_reading.proofs.Variants.{behind_name, first_other, told}
use Rattle.shown_reading.proofs.messages.message_in.Goals as goal

pub returns-in-Some : goal.returns-in-Some
returns-in-Some c =
    let command = sym c.name_of_word.ensures ∙ c.in-Some.is in
    eased is_typed _ _ c.named_message.result
    (λ m h e. behind_name c.args.words c.word-command.new.self m c.in-Some.name c.word-command.ensures.left (ap name_of_word (sym c.word-command.ensures.word) ∙ command) e) c.named_message.ensures

pub returns-in-None : goal.returns-in-None
returns-in-None c m h e =
    let command = sym c.name_of_word.ensures ∙ c.in-None.is in
    let nameless = sym (told m) ∙ (ap (λ ws. name_of_word (first_word ws)) (sym e) ∙ (ap name_of_word (sym c.word-command.ensures.word) ∙ command)) in
    let other : c.word-command.result.now ≡ codes "other" = c.word-command.ensures.word ∙ (ap first_word e ∙ first_other m nameless) in
    false≢true (sym c.if-eq.false ∙ (c.eq.ensures ∙ (ap (λ (s : List ℕ). bytes_eq c.word-command.result.now s) c.as_slice.ensures ∙ (bytes_eq-Decides c.word-command.result.now (codes "other")).1 other)))
