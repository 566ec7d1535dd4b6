use Rattle.command_words.proofs.Forms.{formless_since}
use Rattle.command_words.proofs.command.with_arguments.Goals as goal

pub returns-in_err-salt_of-in-ids-2 : goal.returns-in_err-salt_of-in-ids-2
returns-in_err-salt_of-in-ids-2 c =
    rw c.from_residual-in_err-salt_of-in-ids-2.ensures (formless_since c.args.name.now c.args.first.now c.args.second.now c.in_err-salt_of-in-ids-2.ensures)
