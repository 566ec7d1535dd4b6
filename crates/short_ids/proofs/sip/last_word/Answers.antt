use Rattle.std.proofs.Common.{◌≡◌, [], ◌∷◌, ◌++◌, ◌%◌, length, drop, slice_set, sym, ap, ◌∙◌}
use Rattle.std.specs.Int.{w64, from_le_bytes}
use Rattle.short_ids.proofs.Words.{zeros, words_of-last}
use Rattle.short_ids.proofs.sip.last_word.Goals as goal

pub returns : goal.returns
returns c =
    let rest = c.args.rest.now in
    let word : c.from_le_bytes.result ≡ from_le_bytes w64 (slice_set (c.copy_from_slice.new.self ++ drop (length rest) zeros) 7 (c.args.len % 256)) = c.from_le_bytes.ensures in
    words_of-last c.args.len rest c.requires
    ∙ sym (ap (λ w. w ∷ []) (word ∙ ap (λ bytes. from_le_bytes w64 (slice_set (bytes ++ drop (length rest) zeros) 7 (c.args.len % 256))) c.copy_from_slice.ensures.after))
