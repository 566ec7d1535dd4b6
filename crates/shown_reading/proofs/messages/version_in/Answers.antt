use Rattle.std.proofs.Common.{◌≡◌, ◌∙◌, Err, List, ℕ, ap}
use Rattle.std.proofs.lemmas.Result.{err_from_is_err_and}
use Rattle.wire_laws.proofs.Parts.{version_ranges}
use Rattle.shown_reading.specs.Words.{first_word, other_words}
use Rattle.shown_reading.proofs.OneWord.{failed}
use Rattle.shown_reading.proofs.Versions.{same_32, same_64, version_only}
use Rattle.shown_reading.proofs.messages.version_in.Goals as goal

pub returns-in_err-receiver : goal.returns-in_err-receiver
returns-in_err-receiver c =
    let p = err_from_is_err_and c.from_residual-in_err-receiver.result c.from_residual-in_err-receiver.ensures.1 in
    let same : c.from_residual-in_err-receiver.result ≡ Err c.in_err-receiver.field-0.0 = cc in
    rw same (failed _ _ _ _ c.in_err-receiver.field-0.0 (λ v h s. (v.receiver, (version_ranges v h).receiver, c.word-4.ensures.word ∙ ap first_word (c.word-3.ensures.left ∙ ap other_words (c.word-2.ensures.left ∙ ap other_words (c.word.ensures.left))) ∙ ap (λ (ws : List (List ℕ)). first_word (other_words (other_words (other_words ws)))) s)) c.in_err-receiver.ensures)

pub returns-in_err-sender : goal.returns-in_err-sender
returns-in_err-sender c =
    let p = err_from_is_err_and c.from_residual-in_err-sender.result c.from_residual-in_err-sender.ensures.1 in
    let same : c.from_residual-in_err-sender.result ≡ Err c.in_err-sender.field-0.0 = cc in
    rw same (failed _ _ _ _ c.in_err-sender.field-0.0 (λ v h s. (v.sender, (version_ranges v h).sender, c.word-5.ensures.word ∙ ap first_word (c.word-4.ensures.left ∙ ap other_words (c.word-3.ensures.left ∙ ap other_words (c.word-2.ensures.left ∙ ap other_words (c.word.ensures.left)))) ∙ ap (λ (ws : List (List ℕ)). first_word (other_words (other_words (other_words (other_words ws))))) s)) c.in_err-sender.ensures)

pub returns-in_err-nonce : goal.returns-in_err-nonce
returns-in_err-nonce c =
    let p = err_from_is_err_and c.from_residual-in_err-nonce.result c.from_residual-in_err-nonce.ensures.1 in
    let same : c.from_residual-in_err-nonce.result ≡ Err c.in_err-nonce.field-0.0 = cc in
    rw same (failed _ _ _ _ c.in_err-nonce.field-0.0 (λ v h s. (v.nonce, (version_ranges v h).nonce, c.word-6.ensures.word ∙ ap first_word (c.word-5.ensures.left ∙ ap other_words (c.word-4.ensures.left ∙ ap other_words (c.word-3.ensures.left ∙ ap other_words (c.word-2.ensures.left ∙ ap other_words (c.word.ensures.left))))) ∙ ap (λ (ws : List (List ℕ)). first_word (other_words (other_words (other_words (other_words (other_words ws)))))) s)) c.in_err-nonce.ensures)

pub returns-in_err-agent : goal.returns-in_err-agent
returns-in_err-agent c =
    let p = err_from_is_err_and c.from_residual-in_err-agent.result c.from_residual-in_err-agent.ensures.1 in
    let same : c.from_residual-in_err-agent.result ≡ Err c.in_err-agent.field-0.0 = cc in
    rw same (failed _ _ _ _ c.in_err-agent.field-0.0 (λ v h s. (v.agent, (version_ranges v h).agent, c.word-7.ensures.word ∙ ap first_word (c.word-6.ensures.left ∙ ap other_words (c.word-5.ensures.left ∙ ap other_words (c.word-4.ensures.left ∙ ap other_words (c.word-3.ensures.left ∙ ap other_words (c.word-2.ensures.left ∙ ap other_words (c.word.ensures.left)))))) ∙ ap (λ (ws : List (List ℕ)). first_word (other_words (other_words (other_words (other_words (other_words (other_words ws))))))) s)) c.in_err-agent.ensures)

pub returns-in_err-height : goal.returns-in_err-height
returns-in_err-height c =
    let p = err_from_is_err_and c.from_residual-in_err-height.result c.from_residual-in_err-height.ensures.1 in
    let same : c.from_residual-in_err-height.result ≡ Err c.in_err-height.field-0.0 = cc in
    rw same (failed _ _ _ _ c.in_err-height.field-0.0 (λ v h s. (v.height, (version_ranges v h).height, c.word-8.ensures.word ∙ ap first_word (c.word-7.ensures.left ∙ ap other_words (c.word-6.ensures.left ∙ ap other_words (c.word-5.ensures.left ∙ ap other_words (c.word-4.ensures.left ∙ ap other_words (c.word-3.ensures.left ∙ ap other_words (c.word-2.ensures.left ∙ ap other_words (c.word.ensures.left))))))) ∙ ap (λ (ws : List (List ℕ)). first_word (other_words (other_words (other_words (other_words (other_words (other_words (other_words ws)))))))) s)) c.in_err-height.ensures)

pub returns-in_err-relay : goal.returns-in_err-relay
returns-in_err-relay c =
    let p = err_from_is_err_and c.from_residual-in_err-relay.result c.from_residual-in_err-relay.ensures.1 in
    let same : c.from_residual-in_err-relay.result ≡ Err c.in_err-relay.field-0.0 = cc in
    rw same (failed _ _ _ _ c.in_err-relay.field-0.0 (λ v h s. (v.relay, (version_ranges v h).relay, c.word-9.ensures.word ∙ ap first_word (c.word-8.ensures.left ∙ ap other_words (c.word-7.ensures.left ∙ ap other_words (c.word-6.ensures.left ∙ ap other_words (c.word-5.ensures.left ∙ ap other_words (c.word-4.ensures.left ∙ ap other_words (c.word-3.ensures.left ∙ ap other_words (c.word-2.ensures.left ∙ ap other_words (c.word.ensures.left)))))))) ∙ ap (λ (ws : List (List ℕ)). first_word (other_words (other_words (other_words (other_words (other_words (other_words (other_words (other_words ws))))))))) s)) c.in_err-relay.ensures)

pub returns : goal.returns
returns c =
    rw (same_32 c.in_ok-version.version c.in_ok-version.ensures.0, same_64 c.in_ok-time.time c.in_ok-time.ensures.0, same_32 c.in_ok-height.height c.in_ok-height.ensures.0)
    (version_only c.args.words c.word.result.now c.word-2.result.now c.word-3.result.now c.word-4.result.now c.word-5.result.now c.word-6.result.now c.word-7.result.now c.word-8.result.now c.word-9.result.now c.word.ensures.word (c.word-2.ensures.word ∙ ap first_word (c.word.ensures.left)) (c.word-3.ensures.word ∙ ap first_word (c.word-2.ensures.left ∙ ap other_words (c.word.ensures.left))) (c.word-4.ensures.word ∙ ap first_word (c.word-3.ensures.left ∙ ap other_words (c.word-2.ensures.left ∙ ap other_words (c.word.ensures.left)))) (c.word-5.ensures.word ∙ ap first_word (c.word-4.ensures.left ∙ ap other_words (c.word-3.ensures.left ∙ ap other_words (c.word-2.ensures.left ∙ ap other_words (c.word.ensures.left))))) (c.word-6.ensures.word ∙ ap first_word (c.word-5.ensures.left ∙ ap other_words (c.word-4.ensures.left ∙ ap other_words (c.word-3.ensures.left ∙ ap other_words (c.word-2.ensures.left ∙ ap other_words (c.word.ensures.left)))))) (c.word-7.ensures.word ∙ ap first_word (c.word-6.ensures.left ∙ ap other_words (c.word-5.ensures.left ∙ ap other_words (c.word-4.ensures.left ∙ ap other_words (c.word-3.ensures.left ∙ ap other_words (c.word-2.ensures.left ∙ ap other_words (c.word.ensures.left))))))) (c.word-8.ensures.word ∙ ap first_word (c.word-7.ensures.left ∙ ap other_words (c.word-6.ensures.left ∙ ap other_words (c.word-5.ensures.left ∙ ap other_words (c.word-4.ensures.left ∙ ap other_words (c.word-3.ensures.left ∙ ap other_words (c.word-2.ensures.left ∙ ap other_words (c.word.ensures.left)))))))) (c.word-9.ensures.word ∙ ap first_word (c.word-8.ensures.left ∙ ap other_words (c.word-7.ensures.left ∙ ap other_words (c.word-6.ensures.left ∙ ap other_words (c.word-5.ensures.left ∙ ap other_words (c.word-4.ensures.left ∙ ap other_words (c.word-3.ensures.left ∙ ap other_words (c.word-2.ensures.left ∙ ap other_words (c.word.ensures.left))))))))) c.in_ok-version.version c.in_ok-services.services c.in_ok-time.time c.in_ok-receiver.receiver c.in_ok-sender.sender c.in_ok-nonce.nonce c.in_ok-agent.agent c.in_ok-height.height c.in_ok-relay.relay c.in_ok-version.ensures c.in_ok-services.ensures c.in_ok-time.ensures c.in_ok-receiver.ensures c.in_ok-sender.ensures c.in_ok-nonce.ensures c.in_ok-agent.ensures c.in_ok-height.ensures c.in_ok-relay.ensures)
