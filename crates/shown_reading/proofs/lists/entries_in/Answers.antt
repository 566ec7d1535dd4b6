use Rattle.std.proofs.Common.{◌≡◌, Err}
use Rattle.std.proofs.lemmas.Result.{err_from_is_err_and}
use Rattle.wire_rules.specs.Limits.{is_entry}
use Rattle.wire_rules.specs.Shown.{entry_word}
use Rattle.shown_reading.proofs.ManyWords.{all_read, next_failed, next_one, none_yet}
use Rattle.shown_reading.proofs.lists.entries_in.Goals as goal

pub loop-word-init : goal.loop-word-init
loop-word-init c = none_yet entry_word is_entry c.args.words c.into_iter-word-iterator.result c.new-entries.result.items c.new-entries.ensures.items c.into_iter-word-iterator.ensures.into_iter_gives

pub returns-in_err-entry_of : goal.returns-in_err-entry_of
returns-in_err-entry_of c =
    let p = err_from_is_err_and c.from_residual.result c.from_residual.ensures.1 in
    let same : c.from_residual.result ≡ Err c.in_err-entry_of.field-0.0 = cc in
    rw same (next_failed entry_word is_entry c.args.words c.loop-word.word-iterator c.next.new.self c.loop-word.entries.items c.in-Some.word.now c.in_err-entry_of.field-0.0 c.loop-word.invariant c.in-Some.ensures.steps c.in_err-entry_of.ensures)

pub loop-word-preserved : goal.loop-word-preserved
loop-word-preserved c =
    next_one entry_word is_entry c.args.words c.loop-word.word-iterator c.next.new.self c.loop-word.entries.items c.push.new.self.items c.in-Some.word.now c.in_ok-entry_of.field-0 c.loop-word.invariant c.in-Some.ensures.steps c.in_ok-entry_of.ensures c.in_ok-push.ensures.items

pub returns : goal.returns
returns c = all_read entry_word is_entry c.args.words c.loop-word.word-iterator c.loop-word.entries.items c.from_vec.result c.loop-word.invariant c.in-None.ensures.steps.0 c.from_vec.ensures
