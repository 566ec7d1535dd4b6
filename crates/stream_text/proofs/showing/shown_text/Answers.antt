use Rattle.std.proofs.Common.{◌≡◌, ℕ, Vec, Global, Err, rules}
use Rattle.std.proofs.lemmas.Result.{err_from_is_err_and}
use Rattle.stream_text.proofs.Streams.{shown_all, shown_more, shown_stop}
use Rattle.stream_text.proofs.showing.shown_text.Goals as goal

pub returns-in_err-message : goal.returns-in_err-message
returns-in_err-message c =
    let p = err_from_is_err_and c.from_residual.result c.from_residual.ensures.1 in
    let same : c.from_residual.result ≡ Err c.in_err-message.field-0.0 = cc in
    rw same (shown_stop (λ (v : Vec ℕ Global). v.items) c.args.bytes.now c.loop-rest.text.items c.loop-rest.offset c.loop-rest.rest.now c.in_err-message.field-0.0 (search rules) c.loop-rest.invariant c.in_err-message.ensures)

pub loop-rest-preserved : goal.loop-rest-preserved
loop-rest-preserved c =
    rw (c.saturating_add-offset.ensures, c.split_at.ensures.back)
    (shown_more c.args.bytes.now c.loop-rest.text.items c.put_line.new.text.items c.loop-rest.offset c.loop-rest.rest.now c.in_ok-message.message c.in_ok-message.size (search rules) c.loop-rest.invariant c.in_ok-message.ensures c.in_ok-put_line.ensures.ok)

pub returns : goal.returns
returns c = shown_all c.args.bytes.now c.loop-rest.text.items c.loop-rest.offset c.loop-rest.rest.now (search rules) c.loop-rest.invariant
