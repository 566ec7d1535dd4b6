use Rattle.std.proofs.Common.{◌≡◌, ◌∙◌, ◌^◌, ℕ, Err, ap, refl, nat_lt}
use Rattle.std.proofs.lemmas.Result.{err_from_is_err_and}
use Rattle.std.proofs.lemmas.Bool.{and_from, and_parts}
use Rattle.shown_reading.specs.Words.{first_word, other_words}
use Rattle.shown_reading.proofs.Variants.{built, unbuilt, is_sendtxrcncl}
use Rattle.shown_reading.proofs.messages.announcement.Goals as goal

pub returns-in_err-version : goal.returns-in_err-version
returns-in_err-version c =
    let p = err_from_is_err_and c.from_residual.result c.from_residual.ensures.1 in
    let same : c.from_residual.result ≡ Err c.in_err-version.field-0.0 = cc in
    rw same (unbuilt is_sendtxrcncl _ refl c.args.words _ _ c.in_err-version.field-0.0 (λ y h e. (y.0, (and_parts (nat_lt y.0 (2 ^ 32)) (nat_lt y.1 (2 ^ 64)) h).0, c.word.ensures.word ∙ ap first_word e)) c.in_err-version.ensures)

pub returns-in_err-salt : goal.returns-in_err-salt
returns-in_err-salt c =
    let p = err_from_is_err_and c.from_residual-in_err-salt.result c.from_residual-in_err-salt.ensures.1 in
    let same : c.from_residual-in_err-salt.result ≡ Err c.in_err-salt.field-0.0 = cc in
    rw same (unbuilt is_sendtxrcncl _ refl c.args.words _ _ c.in_err-salt.field-0.0 (λ y h e. (y.1, (and_parts (nat_lt y.0 (2 ^ 32)) (nat_lt y.1 (2 ^ 64)) h).1, c.word-2.ensures.word ∙ (ap first_word c.word.ensures.left ∙ ap (λ ws. first_word (other_words ws)) e))) c.in_err-salt.ensures)

pub returns : goal.returns
returns c =
    let first = c.in_ok-version.ensures in
    let second = c.in_ok-salt.ensures in
    built is_sendtxrcncl _ refl c.args.words (c.in_ok-version.version, c.in_ok-salt.salt) (and_from (nat_lt c.in_ok-version.version (2 ^ 32)) (nat_lt c.in_ok-salt.salt (2 ^ 64)) first.0 second.0)
    (λ y h e. both y (first.1 y.0 (and_parts (nat_lt y.0 (2 ^ 32)) (nat_lt y.1 (2 ^ 64)) h).0 (c.word.ensures.word ∙ ap first_word e)) (second.1 y.1 (and_parts (nat_lt y.0 (2 ^ 32)) (nat_lt y.1 (2 ^ 64)) h).1 (c.word-2.ensures.word ∙ (ap first_word c.word.ensures.left ∙ ap (λ ws. first_word (other_words ws)) e))))
  where
    both : (y : ℕ × ℕ) → y.0 ≡ c.in_ok-version.version → y.1 ≡ c.in_ok-salt.salt → y ≡ (c.in_ok-version.version, c.in_ok-salt.salt)
    both y e f = ap (λ k. (k, y.1)) e ∙ ap (λ k. (c.in_ok-version.version, k)) f
