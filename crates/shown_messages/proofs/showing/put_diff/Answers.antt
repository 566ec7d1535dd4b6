use Rattle.std.proofs.Common.{sym, ap, ◌∙◌, List, ℕ, ◌∷◌, ◌++◌}
use Rattle.line_rules.specs.Digits.{eight_digits}
use Rattle.wire_rules.specs.Shown.{flag_word}
use Rattle.wire_rules.specs.Commands.{word_of}
use Rattle.wire_rules.specs.declared.name.Name.TheVariants as name
use Rattle.shown_messages.proofs.Joined.{joined, second_joined}
use Rattle.shown_messages.proofs.showing.put_diff.Goals as goal

pub returns : goal.returns
returns c =
    rw (c.in_ok-put_each_short.ensures, c.in_ok-put_flag.ensures, c.in_ok-extend_from_slice.ensures.items, c.word_of.ensures)
    (second_joined eight_digits c.args.out.now.items (word_of name.ReconcilDiff) (flag_word c.args.success) c.args.asks.now)
