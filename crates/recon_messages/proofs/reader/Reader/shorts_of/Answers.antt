use Rattle.std.proofs.Common.{◌≡◌, ℕ, Vec, Global, Err, arith}
use Rattle.std.specs.Int.{w32}
use Rattle.std.proofs.lemmas.Result.{err_from_is_err_and}
use Rattle.wire_rules.specs.Reading.{entry_at, number_at}
use Rattle.recon_messages.proofs.Fields.{loop_all, loop_more, loop_stopped}
use Rattle.recon_messages.proofs.reader.Reader.shorts_of.Goals as goal

pub returns-in_err-short : goal.returns-in_err-short
returns-in_err-short c =
    let p = err_from_is_err_and c.from_residual-in_err-short.result c.from_residual-in_err-short.ensures.1 in
    let same : c.from_residual-in_err-short.result ≡ Err c.in_err-short.field-0.0 = cc in
    rw same (loop_stopped (number_at w32) (λ (v : Vec ℕ Global). v.items) c.args.n c.loop-i.i c.args.self.now c.loop-i.self c.read_u32.new.self c.read_u32.new.self c.loop-i.shorts.items c.in_err-short.field-0.0 (omega arith) c.in_err-short.ensures c.loop-i.invariant)

pub loop-i-preserved : goal.loop-i-preserved
loop-i-preserved c = loop_more (number_at w32) c.args.n c.loop-i.i c.args.self.now c.loop-i.self c.read_u32.new.self c.loop-i.shorts.items c.push.new.self.items c.in_ok-short.short (omega arith) c.in_ok-push.ensures.items c.in_ok-short.ensures c.loop-i.invariant

pub returns : goal.returns
returns c = loop_all (number_at w32) c.args.n c.loop-i.i c.args.self.now c.loop-i.self c.loop-i.shorts.items (omega arith) c.loop-i.invariant
