use Rattle.std.proofs.Common.{length, fold, sym, ap, ◌∙◌, arith}
use Rattle.id_rules.specs.SipHash.{after_word, sip_digest, sip24}
use Rattle.short_ids.specs.States.{state_of}
use Rattle.short_ids.proofs.Words.{word_taken}
use Rattle.short_ids.proofs.sip.sip24.Goals as goal

pub loop-word-preserved : goal.loop-word-preserved
loop-word-preserved c =
    let parts = c.in-Some.ensures.cases in
    let state = state_of c.loop-word.state in
    let next = state_of c.after_word-state.result in
    let rest = c.loop-word.rest.now in
    word_taken (length c.args.bytes.now) c.from_le_bytes.result state next rest c.in-Some.word.now c.in-Some.behind.now (omega (arith, parts.2)) parts.0 parts.1 c.from_le_bytes.ensures c.after_word-state.ensures
    ∙ c.loop-word.invariant

pub returns : goal.returns
unfolding sip24
returns c =
    c.digest.ensures
    ∙ ap sip_digest (c.after_word.ensures ∙ ap (fold after_word (state_of c.loop-word.state)) (sym c.last_word.ensures) ∙ c.loop-word.invariant)
