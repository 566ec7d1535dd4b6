use Rattle.std.proofs.Common.{◌≡◌, ℕ, Vec, Global, Err, arith}
use Rattle.std.specs.Int.{w32}
use Rattle.std.proofs.lemmas.Result.{err_from_is_err_and}
use Rattle.wire_rules.specs.Reading.{entry_at, number_at}
use Rattle.wire_rules.specs.declared.message.InvEntry.{InvEntry}
use Rattle.recon_messages.proofs.Fields.{loop_all, loop_more, loop_stopped}
use Rattle.recon_messages.proofs.reader.Reader.entries_of.Goals as goal

pub returns-in_err-entry : goal.returns-in_err-entry
returns-in_err-entry c =
    let p = err_from_is_err_and c.from_residual-in_err-entry.result c.from_residual-in_err-entry.ensures.1 in
    let same : c.from_residual-in_err-entry.result ≡ Err c.in_err-entry.field-0.0 = cc in
    rw same (loop_stopped entry_at (λ (v : Vec InvEntry Global). v.items) c.args.n c.loop-i.i c.args.self.now c.loop-i.self c.entry.new.self c.entry.new.self c.loop-i.entries.items c.in_err-entry.field-0.0 (omega arith) c.in_err-entry.ensures c.loop-i.invariant)

pub loop-i-preserved : goal.loop-i-preserved
loop-i-preserved c = loop_more entry_at c.args.n c.loop-i.i c.args.self.now c.loop-i.self c.entry.new.self c.loop-i.entries.items c.push.new.self.items c.in_ok-entry.entry (omega arith) c.in_ok-push.ensures.items c.in_ok-entry.ensures c.loop-i.invariant

pub returns : goal.returns
returns c = loop_all entry_at c.args.n c.loop-i.i c.args.self.now c.loop-i.self c.loop-i.entries.items (omega arith) c.loop-i.invariant
