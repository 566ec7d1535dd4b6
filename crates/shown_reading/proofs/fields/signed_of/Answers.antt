use Rattle.shown_reading.proofs.OneWord.{signed_no_text, signed_none, signed_only}
use Rattle.shown_reading.proofs.fields.signed_of.Goals as goal

pub returns-in_default : goal.returns-in_default
returns-in_default c = signed_no_text c.args.word.now c.in_default.ensures.cases.0

pub returns-in-Ok-parse : goal.returns-in-Ok-parse
returns-in-Ok-parse c = signed_only c.in-Ok.text.now c.args.word.now c.in-Ok.ensures.cases.0 c.parse.result c.parse.ensures.value.0 c.in-Ok-parse.number c.in-Ok-parse.is

pub returns-in-Err : goal.returns-in-Err
returns-in-Err c = signed_none c.in-Ok.text.now c.args.word.now c.in-Ok.ensures.cases.0 c.parse.result c.parse.ensures.value.0 c.in-Err.field-0 c.in-Err.is
