use Rattle.std.proofs.Common.{◌≡◌, ◌≢◌, ℕ, ◌<◌, slice_index_or, sym, ◌∙◌, subst, arith}
use Rattle.sketch_text.specs.Readings.{IsPlain}
use Rattle.sketch_text.proofs.Digits.{plain_line}
use Rattle.sketch_text.proofs.plain.plain_element.Goals as goal

pub returns-in_default-from_be_bytes : goal.returns-in_default-from_be_bytes
returns-in_default-from_be_bytes c =
    let text = c.args.text.now in
    let first : c.pair_of-first.result < 4096 = omega arith in
    let second : c.pair_of-second.result < 4096 = omega arith in
    let third : c.pair_of-third.result < 4096 = omega arith in
    let last : c.pair_of-last.result < 4096 = omega arith in
    let end : slice_index_or text 8 0 ≡ 10 = omega arith in
    let some : c.from_be_bytes.result ≢ 0 = omega arith in
    let number = c.from_be_bytes.ensures in
    let plain = plain_line text c.pair_of-first.result c.pair_of-second.result c.pair_of-third.result c.pair_of-last.result (omega arith)
    (c.pair_of-first.ensures.read first 0) (c.pair_of-second.ensures.read second 2) (c.pair_of-third.ensures.read third 4) (c.pair_of-last.ensures.read last 6) end (λ none. some (number ∙ none))
    in
    subst (λ (e : ℕ). IsPlain text e) (sym number) plain
