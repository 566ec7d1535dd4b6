use Rattle.std.proofs.Common.{sym, ◌∙◌, arith}
use Rattle.id_text.proofs.Digits.{bad_digit}
use Rattle.id_text.proofs.id.id_of.Goals as goal

pub returns-in-Err : goal.returns-in-Err
returns-in-Err c = sym (bad_digit c.args.line.now c.in-Err.field-0 (omega arith) (sym c.from_hex.ensures ∙ c.in-Err.is))
