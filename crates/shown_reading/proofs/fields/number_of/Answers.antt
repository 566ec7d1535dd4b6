use Rattle.shown_reading.proofs.OneWord.{number_no_text, number_none, number_only}
use Rattle.shown_reading.proofs.fields.number_of.Goals as goal

pub returns-in_default : goal.returns-in_default
returns-in_default c = number_no_text c.args.word.now c.in_default.ensures.cases.0

pub returns-in-Ok-parse : goal.returns-in-Ok-parse
returns-in-Ok-parse c = number_only c.in-Ok.text.now c.args.word.now c.in-Ok.ensures.cases.0 c.parse.result c.parse.ensures.value.0 c.in-Ok-parse.number c.in-Ok-parse.is

pub returns-in-Err : goal.returns-in-Err
returns-in-Err c = number_none c.in-Ok.text.now c.args.word.now c.in-Ok.ensures.cases.0 c.parse.result c.parse.ensures.value.0 c.in-Err.field-0 c.in-Err.is
