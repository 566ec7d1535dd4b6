use Rattle.shown_reading.proofs.OneWord.{short_only}
use Rattle.shown_reading.proofs.fields.short_of.Goals as goal

pub returns : goal.returns
returns c = short_only c.args.word.now c.in_ok-array_of.field-0 c.from_be_bytes.result c.in_ok-array_of.ensures c.from_be_bytes.ensures c.from_be_bytes.type_inv
