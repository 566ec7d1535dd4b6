use Rattle.std.proofs.Common.{◌≡◌, ◌∙◌, ◌^◌, ℕ, Err, ap, refl, nat_lt}
use Rattle.std.proofs.lemmas.Result.{err_from_is_err_and}
use Rattle.std.proofs.lemmas.Bool.{and_from, and_parts}
use Rattle.shown_reading.specs.Words.{first_word, other_words}
use Rattle.shown_reading.proofs.Variants.{built, unbuilt, is_reqrecon}
use Rattle.shown_reading.proofs.messages.request.Goals as goal

pub returns-in_err-size : goal.returns-in_err-size
returns-in_err-size c =
    let p = err_from_is_err_and c.from_residual.result c.from_residual.ensures.1 in
    let same : c.from_residual.result ≡ Err c.in_err-size.field-0.0 = cc in
    rw same (unbuilt is_reqrecon _ refl c.args.words _ _ c.in_err-size.field-0.0 (λ y h e. (y.0, (and_parts (nat_lt y.0 (2 ^ 16)) (nat_lt y.1 (2 ^ 16)) h).0, c.word.ensures.word ∙ ap first_word e)) c.in_err-size.ensures)

pub returns-in_err-q : goal.returns-in_err-q
returns-in_err-q c =
    let p = err_from_is_err_and c.from_residual-in_err-q.result c.from_residual-in_err-q.ensures.1 in
    let same : c.from_residual-in_err-q.result ≡ Err c.in_err-q.field-0.0 = cc in
    rw same (unbuilt is_reqrecon _ refl c.args.words _ _ c.in_err-q.field-0.0 (λ y h e. (y.1, (and_parts (nat_lt y.0 (2 ^ 16)) (nat_lt y.1 (2 ^ 16)) h).1, c.word-2.ensures.word ∙ (ap first_word c.word.ensures.left ∙ ap (λ ws. first_word (other_words ws)) e))) c.in_err-q.ensures)

pub returns : goal.returns
returns c =
    let first = c.in_ok-size.ensures in
    let second = c.in_ok-q.ensures in
    built is_reqrecon _ refl c.args.words (c.in_ok-size.size, c.in_ok-q.q) (and_from (nat_lt c.in_ok-size.size (2 ^ 16)) (nat_lt c.in_ok-q.q (2 ^ 16)) first.0 second.0)
    (λ y h e. both y (first.1 y.0 (and_parts (nat_lt y.0 (2 ^ 16)) (nat_lt y.1 (2 ^ 16)) h).0 (c.word.ensures.word ∙ ap first_word e)) (second.1 y.1 (and_parts (nat_lt y.0 (2 ^ 16)) (nat_lt y.1 (2 ^ 16)) h).1 (c.word-2.ensures.word ∙ (ap first_word c.word.ensures.left ∙ ap (λ ws. first_word (other_words ws)) e))))
  where
    both : (y : ℕ × ℕ) → y.0 ≡ c.in_ok-size.size → y.1 ≡ c.in_ok-q.q → y ≡ (c.in_ok-size.size, c.in_ok-q.q)
    both y e f = ap (λ k. (k, y.1)) e ∙ ap (λ k. (c.in_ok-size.size, k)) f
