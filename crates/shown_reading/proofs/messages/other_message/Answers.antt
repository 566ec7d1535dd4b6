use Rattle.std.proofs.Common.{◌≡◌, ◌∙◌, Err, ap}
use Rattle.std.proofs.lemmas.Result.{err_from_is_err_and}
use Rattle.shown_reading.specs.Words.{first_word, other_words}
use Rattle.shown_reading.proofs.OneWord.{failed}
use Rattle.shown_reading.proofs.Variants.{other_held, other_only}
use Rattle.shown_reading.proofs.messages.other_message.Goals as goal

pub returns-in_err-command : goal.returns-in_err-command
returns-in_err-command c =
    let p = err_from_is_err_and c.from_residual.result c.from_residual.ensures.1 in
    let same : c.from_residual.result ≡ Err c.in_err-command.field-0.0 = cc in
    rw same (failed _ _ _ _ c.in_err-command.field-0.0 (λ m h e. let o = other_held c.args.words m h e in (o.0, o.3, c.word.ensures.word ∙ ap first_word o.5)) c.in_err-command.ensures)

pub returns-in_err-payload : goal.returns-in_err-payload
returns-in_err-payload c =
    let p = err_from_is_err_and c.from_residual-in_err-payload.result c.from_residual-in_err-payload.ensures.1 in
    let same : c.from_residual-in_err-payload.result ≡ Err c.in_err-payload.field-0.0 = cc in
    rw same (failed _ _ _ _ c.in_err-payload.field-0.0 (λ m h e. let o = other_held c.args.words m h e in (o.1, o.4, c.word-2.ensures.word ∙ (ap first_word c.word.ensures.left ∙ ap (λ ws. first_word (other_words ws)) o.5))) c.in_err-payload.ensures)

pub returns : goal.returns
returns c =
    other_only c.args.words c.word.result.now c.word-2.result.now c.word.ensures.word (c.word-2.ensures.word ∙ ap first_word c.word.ensures.left) c.in_ok-command.command c.in_ok-payload.payload c.in_ok-command.ensures c.in_ok-payload.ensures
