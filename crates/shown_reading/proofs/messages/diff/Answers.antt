use Rattle.std.proofs.Common.{◌≡◌, ◌∙◌, ℕ, List, Bool, Err, ap, refl}
use Rattle.std.proofs.lemmas.Result.{err_from_is_err_and}
use Rattle.shown_reading.specs.Words.{first_word, other_words}
use Rattle.shown_reading.proofs.Variants.{built, unbuilt, is_reconcildiff}
use Rattle.shown_reading.proofs.messages.diff.Goals as goal

pub returns-in_err-success : goal.returns-in_err-success
returns-in_err-success c =
    let p = err_from_is_err_and c.from_residual.result c.from_residual.ensures.1 in
    let same : c.from_residual.result ≡ Err c.in_err-success.field-0.0 = cc in
    rw same (unbuilt is_reconcildiff _ refl c.args.words _ _ c.in_err-success.field-0.0 (λ y h e. (y.0, refl, c.word.ensures.word ∙ ap first_word e)) c.in_err-success.ensures)

pub returns-in_err-asks : goal.returns-in_err-asks
returns-in_err-asks c =
    let p = err_from_is_err_and c.from_residual-in_err-asks.result c.from_residual-in_err-asks.ensures.1 in
    let same : c.from_residual-in_err-asks.result ≡ Err c.in_err-asks.field-0.0 = cc in
    rw same (unbuilt is_reconcildiff _ refl c.args.words _ _ c.in_err-asks.field-0.0 (λ y h e. (y.1, h, c.word.ensures.left ∙ ap other_words e)) c.in_err-asks.ensures)

pub returns : goal.returns
returns c =
    let first = c.in_ok-success.ensures in
    let others = c.in_ok-asks.ensures in
    built is_reconcildiff _ refl c.args.words (c.in_ok-success.success, c.in_ok-asks.asks) others.0
    (λ y h e. both y (first.1 y.0 refl (c.word.ensures.word ∙ ap first_word e)) (others.1 y.1 h (c.word.ensures.left ∙ ap other_words e)))
  where
    both : (y : Bool × List ℕ) → y.0 ≡ c.in_ok-success.success → y.1 ≡ c.in_ok-asks.asks → y ≡ (c.in_ok-success.success, c.in_ok-asks.asks)
    both y e f = ap (λ k. (k, y.1)) e ∙ ap (λ k. (c.in_ok-success.success, k)) f
