use Rattle.std.proofs.Common.{◌≡◌, ◌^◌, nat_lt, Err}
use Rattle.std.proofs.lemmas.Result.{err_from_is_err_and}
use Rattle.line_rules.specs.Digits.{eight_digits}
use Rattle.shown_reading.proofs.ManyWords.{all_read, next_failed, next_one, none_yet}
use Rattle.shown_reading.proofs.lists.shorts_in.Goals as goal

pub loop-word-init : goal.loop-word-init
loop-word-init c = none_yet eight_digits (λ n. nat_lt n (2 ^ 32)) c.args.words c.into_iter-word-iterator.result c.new-shorts.result.items c.new-shorts.ensures.items c.into_iter-word-iterator.ensures.into_iter_gives

pub returns-in_err-short_of : goal.returns-in_err-short_of
returns-in_err-short_of c =
    let p = err_from_is_err_and c.from_residual.result c.from_residual.ensures.1 in
    let same : c.from_residual.result ≡ Err c.in_err-short_of.field-0.0 = cc in
    rw same (next_failed eight_digits (λ n. nat_lt n (2 ^ 32)) c.args.words c.loop-word.word-iterator c.next.new.self c.loop-word.shorts.items c.in-Some.word.now c.in_err-short_of.field-0.0 c.loop-word.invariant c.in-Some.ensures.steps c.in_err-short_of.ensures)

pub loop-word-preserved : goal.loop-word-preserved
loop-word-preserved c =
    next_one eight_digits (λ n. nat_lt n (2 ^ 32)) c.args.words c.loop-word.word-iterator c.next.new.self c.loop-word.shorts.items c.push.new.self.items c.in-Some.word.now c.in_ok-short_of.field-0 c.loop-word.invariant c.in-Some.ensures.steps c.in_ok-short_of.ensures c.in_ok-push.ensures.items

pub returns : goal.returns
returns c = all_read eight_digits (λ n. nat_lt n (2 ^ 32)) c.args.words c.loop-word.word-iterator c.loop-word.shorts.items c.from_vec.result c.loop-word.invariant c.in-None.ensures.steps.0 c.from_vec.ensures
