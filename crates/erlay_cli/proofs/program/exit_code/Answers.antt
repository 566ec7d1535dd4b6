use Rattle.std.proofs.Common.{◌≡◌, ◌∙◌, ap, drop}
use Rattle.erlay_cli.proofs.program.exit_code.Goals as goal

pub returns-in-Ok-clause-command : goal.returns-in-Ok-clause-command
returns-in-Ok-clause-command g c =
    let words : c.words_of-words.result.now ≡ drop 1 c.in-Ok.arguments.items = c.words_of-words.ensures ∙ ap (drop 1) c.as_slice.ensures.value in
    rw c.in-Ok.is (λ none. (c.run.result, (rw words at c.run.ensures.command) none, c.code.ensures))
