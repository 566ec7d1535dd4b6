use Rattle.std.proofs.Common.{◌≡◌, ◌+◌, Err, arith}
use Rattle.std.proofs.lemmas.List.{take_rest}
use Rattle.std.proofs.lemmas.Result.{err_from_is_err_and}
use Rattle.shown_reading.proofs.OneWord.{entry_only, failed, id_failed, kind_part}
use Rattle.shown_reading.proofs.fields.entry_of.Goals as goal

pub returns-in_err-kind : goal.returns-in_err-kind
returns-in_err-kind c =
    let found = c.in-Some.ensures in
    let p = err_from_is_err_and c.from_residual.result c.from_residual.ensures.1 in
    let same : c.from_residual.result ≡ Err c.in_err-kind.field-0.0 = cc in
    rw same (failed _ _ _ _ c.in_err-kind.field-0.0 (kind_part c.args.word.now c.in-Some.end found.0.high (λ j below is. found.0.before j (omega arith) below is) found.1) c.in_err-kind.ensures)

pub returns-in_err-id : goal.returns-in_err-id
returns-in_err-id c =
    let found = c.in-Some.ensures in
    let p = err_from_is_err_and c.from_residual-in_err-id.result c.from_residual-in_err-id.ensures.1 in
    let same : c.from_residual-in_err-id.result ≡ Err c.in_err-id.field-0.0 = cc in
    rw same (id_failed c.args.word.now c.in-Some.end found.0.high (λ j below is. found.0.before j (omega arith) below is) found.1 _ c.in_err-id.field-0.0 (take_rest c.args.word.now (c.in-Some.end + 1)) c.in_err-id.ensures)

pub returns : goal.returns
returns c =
    let found = c.in-Some.ensures in
    entry_only c.args.word.now c.in-Some.end found.0.high (λ j below is. found.0.before j (omega arith) below is) found.1 c.in_ok-kind.kind c.in_ok-id.id c.in_ok-kind.ensures _ (take_rest c.args.word.now (c.in-Some.end + 1)) c.in_ok-id.ensures
