use Rattle.std.proofs.Common.{sym, ◌∙◌}
use Rattle.shown_reading.proofs.OneWord.{array_none, array_only}
use Rattle.shown_reading.proofs.fields.array_of.Goals as goal

pub returns-in-Ok : goal.returns-in-Ok
returns-in-Ok g c = array_only c.args.word.now g.row.N c.in-Ok.bytes (sym c.from_hex.ensures ∙ c.in-Ok.is)

pub returns-in-Err : goal.returns-in-Err
returns-in-Err g c = array_none c.args.word.now g.row.N c.in-Err.field-0 (sym c.from_hex.ensures ∙ c.in-Err.is)
