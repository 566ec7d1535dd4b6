use Rattle.std.proofs.Common.{◌≡◌, length, fold}
use Rattle.id_rules.specs.SipHash.{after_word, sip_start, words_of}
use Rattle.short_ids.specs.States.{state_of}
use Rattle.short_ids.proofs.sip.sip24.Given as goal

-- the words that are left, onto the state, are all words onto the first state
abbrev pub invariant-loop-word : goal.invariant-loop-word
invariant-loop-word l = fold after_word (state_of l.state) (words_of (length l.bytes) l.rest) ≡ fold after_word (sip_start l.k0 l.k1) (words_of (length l.bytes) l.bytes)

abbrev pub decreases-loop-word : goal.decreases-loop-word
decreases-loop-word l = length l.rest
