use Rattle.std.proofs.Common.{◌≡◌, ◌∙◌, Err, sym}
use Rattle.std.proofs.lemmas.Result.{err_from_is_err_and}
use Rattle.shown_reading.proofs.Checked.{read, unread, unshown}
use Rattle.shown_reading.proofs.reading.read_shown.Goals as goal

pub returns-in_err-message : goal.returns-in_err-message
returns-in_err-message c =
    let p = err_from_is_err_and c.from_residual.result c.from_residual.ensures.1 in
    let same : c.from_residual.result ≡ Err c.in_err-message.field-0.0 = cc in
    rw same (unread c.args.line.now c.of.result c.of.ensures c.in_err-message.field-0.0 c.in_err-message.ensures)

pub returns-then-is_same : goal.returns-then-is_same
returns-then-is_same c = read c.args.line.now c.of.result c.of.ensures c.in_ok-message.message c.in_ok-message.ensures (sym c.in_ok-is_same.ensures ∙ c.if-is_same.true)

pub returns-else-is_same : goal.returns-else-is_same
returns-else-is_same c = unshown c.args.line.now c.of.result c.of.ensures c.in_ok-message.message c.in_ok-message.ensures (sym c.in_ok-is_same.ensures ∙ c.if-is_same.false)
