use Rattle.std.proofs.Common.{sym, ◌∙◌}
use Rattle.command_words.proofs.Salts.{is_salt, no_salt}
use Rattle.command_words.proofs.salt.salt_of.Goals as goal

pub returns-in-Ok : goal.returns-in-Ok
returns-in-Ok c = is_salt c.args.word.now c.in-Ok.bytes c.from_be_bytes.result (sym c.from_hex.ensures ∙ c.in-Ok.is) c.from_be_bytes.ensures c.from_be_bytes.type_inv

pub returns-in-Err : goal.returns-in-Err
returns-in-Err c n salt = no_salt c.args.word.now c.in-Err.field-0 n (sym c.from_hex.ensures ∙ c.in-Err.is) salt
